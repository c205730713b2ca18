-- `rebuilds::points::points_of` meets its contract: before turn i, i places hold their nodes' points.
use Rattle.rebuilds.specs.Weights.{points_in}
use Rattle.rebuilds.proofs.Filling.{Filling}
use Rattle.rebuilds.proofs.points.points_of.Given as goal

abbrev pub invariant-loop-i : goal.invariant-loop-i
invariant-loop-i l = Filling 31 (points_in l.points l.nodes) l.x-items l.i
