-- Squares of 31 by 31 bytes, through which a collection goes, and what its steps promise each other. Bytes are read as symbols.
--   cells g              a list of rows of bytes as a grid
--   Holds m n g G        the first m rows and n columns of g are those of the grid G
--   Solver s xs f        row i of f has the weights of s values in entry i of the solution at the points xs
--   Copied g a h b m r   r is g with the m rows of h from row b on in place of its own from row a on
-- Assumes nothing.
use Rattle.std.specs.Prelude.{◌≡◌, List, [], ℕ, ◌+◌, ◌<◌, ◌≤◌, get_or}
use Rattle.algebra.specs.Sums.{Vec, Grid, Same, dot}
use Rattle.algebra.specs.Poly.{interp}
use Rattle.algebra.specs.Bytes.{at}

abbrev pub cells : List (List ℕ) → Grid
cells g i = at (get_or g i [])

abbrev pub Holds : ℕ → ℕ → List (List ℕ) → Grid → Type 0
Holds m n g G = (i : ℕ) → i < m → Same n (cells g i) (G i)

abbrev pub Solver : ℕ → List ℕ → List (List ℕ) → Type 0
Solver s xs f = (ys : Vec) (i : ℕ) → i < s → dot s ys (cells f i) ≡ interp s (at xs) ys i

pub record Copied (g : List (List ℕ)) (a : ℕ) (h : List (List ℕ)) (b m : ℕ) (r : List (List ℕ)) : Type 0 where
  pub placed : (i : ℕ) → i < m → get_or r (a + i) [] ≡ get_or h (b + i) []
  pub before : (i : ℕ) → i < a → get_or r i [] ≡ get_or g i []
  pub after : (i : ℕ) → a + m ≤ i → get_or r i [] ≡ get_or g i []
