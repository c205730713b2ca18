-- `collects::square::times` meets its contract: before turn i, i entries are products.
-- Assumes nothing.
use mathlib.Core.Path.{◌≡◌}
use lib.ListN.{length}
use Rattle.algebra.specs.Sums.{Same, dot}
use Rattle.algebra.specs.Bytes.{at}
use Rattle.collects.specs.Squares.{cells}
use Rattle.collects.proofs.square.times.Given as goal

abbrev pub invariant-loop-i : goal.invariant-loop-i
invariant-loop-i l = (length l.v ≡ 31) × Same l.i (at l.v) (λ e. dot l.n (at l.y) (cells l.f e))
