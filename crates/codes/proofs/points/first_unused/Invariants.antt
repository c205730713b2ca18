-- `codes::points::first_unused` meets its contract. What is left to search has the same first place as the whole.
-- Assumes nothing.
use mathlib.Core.Path.{◌≡◌}
use Prim.Native.Nat.{◌-◌}
use Rattle.codes.specs.First.{first}
use Rattle.codes.specs.Judge.{filled, unused_at}
use Rattle.codes.proofs.points.first_unused.Given as goal

abbrev pub invariant-loop-i : goal.invariant-loop-i
invariant-loop-i l = first (32 - l.i) l.i (filled l.points) ≡ unused_at l.points l.n
