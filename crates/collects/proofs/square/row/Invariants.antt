-- `collects::square::row` meets its contract: before turn i, i places hold what f gives there.
-- Assumes nothing.
use mathlib.Core.Path.{◌≡◌}
use Prim.Native.Nat.{ℕ, ◌<◌}
use lib.ListN.{length, get_or}
use Rattle.collects.proofs.square.row.Given as goal

abbrev pub invariant-loop-i : goal.invariant-loop-i
invariant-loop-i g l = (length l.v ≡ 31) × ((i : ℕ) → i < l.i → goal.F-post g l.f i (get_or l.v i 0))
