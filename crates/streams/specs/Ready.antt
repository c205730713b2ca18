-- What the code of a slip has in hand: it depends only on the file's code and node, so it is the same for every slip of a run.
--   Powers x row      the row has the first 31 powers of the symbol x
--   Ready s c v       the code c and the node v are the file's
-- Assumes nothing.
use Rattle.std.specs.Prelude.{◌≡◌, List, ℕ, ◌<◌, get_or}
use Rattle.field.specs.Field.{pow}
use Rattle.field.specs.declared.Symbol.{Symbol}
use Rattle.codes.specs.Sizes.{none}
use Rattle.codes.specs.declared.Code.{Code}
use Rattle.shares.specs.Fields.{code_in, node_in}

abbrev pub Powers : ℕ → List Symbol → Type 0
Powers x row = (i : ℕ) → i < 31 → (get_or row i none).0 ≡ pow x i

pub record Ready (s : List ℕ) (c : Code) (v : ℕ) : Type 0 where
  pub code : c ≡ code_in s
  pub node : v ≡ node_in s
