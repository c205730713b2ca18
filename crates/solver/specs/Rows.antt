-- A grid of symbols as the code holds it: a list of rows of bytes.
--
-- rows_of m n M   the first m rows of M, each cut to n entries, as numbers
-- entry g t i    the number at place i of row t of a list of rows; 0 past an end
use Rattle.std.specs.Prelude.{List, [], ◌∷◌, ℕ, zero, suc, get_or}
use Rattle.algebra.specs.Sums.{Grid}
use Rattle.algebra.specs.Bytes.{table}

unfoldable pub rows_of : ℕ → ℕ → Grid → List (List ℕ)
rows_of zero n M = []
rows_of (suc m) n M = table n (M 0) ∷ rows_of m n (λ t. M (suc t))

abbrev pub entry : List (List ℕ) → ℕ → ℕ → ℕ
entry g t i = get_or (get_or g t []) i 0
