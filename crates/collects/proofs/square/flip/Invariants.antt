-- `collects::square::flip` meets its contract: before turn j, j rows are the columns of g.
-- Assumes nothing.
use mathlib.Core.Path.{◌≡◌}
use lib.ListN.{length}
use Rattle.collects.specs.Squares.{cells, Holds}
use Rattle.algebra.specs.Sums.{flip}
use Rattle.collects.proofs.square.flip.Given as goal

abbrev pub invariant-loop-j : goal.invariant-loop-j
invariant-loop-j l = (length l.f ≡ 31) × Holds l.j l.n l.f (flip (cells l.g))
