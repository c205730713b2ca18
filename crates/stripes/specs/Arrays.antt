-- The arrays through which a stripe goes, and what the steps promise each other. Entries are read as symbols.
--   symbol_at w        a list of symbols as a vector;   cell_at g    a list of rows of symbols as a grid
--   Held m w          the work room w holds the message m, and zeros past its end
--   Placed entry r    the entry is the message's symbol at the place r, and 𝟘 where there is none
--   Filled g d a G    the first d rows and a columns of g are those of G
-- Assumes nothing.
use Rattle.std.specs.Prelude.{◌≡◌, List, [], ℕ, ◌<◌, get_or, length, Option, Some, None}
use Rattle.field.specs.declared.Symbol.{Symbol}
use Rattle.algebra.specs.Symbol.{F, symbol, 𝟘}
use Rattle.algebra.specs.Sums.{Vec, Grid}
use Rattle.algebra.specs.Bytes.{at}
use Rattle.codes.specs.Sizes.{none}

abbrev pub symbol_at : List Symbol → Vec
symbol_at w i = symbol (get_or w i none).0

abbrev pub cell_at : List (List Symbol) → Grid
cell_at g i j = symbol (get_or (get_or g i []) j none).0

pub record Held (m : List ℕ) (w : List Symbol) : Type 0 where
  pub long : length w ≡ 496
  pub each : (b : ℕ) → symbol_at w b ≡ at m b

abbrev pub Placed : (Vec → F) → Option ℕ → Type 0
Placed entry (Some r) = (r < 496) × ((f : Vec) → f r ≡ entry f)
Placed entry None = (f : Vec) → entry f ≡ 𝟘

abbrev pub Filled : List (List Symbol) → ℕ → ℕ → Grid → Type 0
Filled g d a G = (i : ℕ) → i < d → (j : ℕ) → j < a → cell_at g i j ≡ G i j
