-- `rebuilds::rebuild_by` meets its contract: before turn j, j bytes of the output are the weighed sums.
-- Where there are more than 31 symbols or bytes, nothing is written.
use lib.ListN.{length}
use Rattle.rebuilds.specs.Plan.{weighed}
use Rattle.rebuilds.proofs.Filling.{Filling}
use Rattle.rebuilds.proofs.rebuild_by.Given as goal

abbrev pub invariant-loop-j : goal.invariant-loop-j
invariant-loop-j l = Filling (length l.initial.output) (weighed l.plan l.t l.symbols) l.output l.j
