-- What a pass over an array does, for any values that the array began with.
--
-- Moves P Q a r   for any values ys: where P holds of ys and a, Q holds of ys and r
use Rattle.std.specs.Prelude.{List, ℕ}
use Rattle.algebra.specs.Sums.{Vec}
use Rattle.algebra.specs.Bytes.{at}

abbrev pub Moves : (Vec → Vec → Type 0) → (Vec → Vec → Type 0) → List ℕ → List ℕ → Type 0
Moves P Q a r = (ys : Vec) → P ys (at a) → Q ys (at r)
