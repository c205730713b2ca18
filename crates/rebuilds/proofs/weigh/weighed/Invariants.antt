-- `rebuilds::weigh::weighed` meets its contract: before turn i the sum is that of i symbols times their weights.
use mathlib.Core.Path.{◌≡◌}
use Rattle.rebuilds.proofs.Weighing.{weighed_to}
use Rattle.rebuilds.proofs.weigh.weighed.Given as goal

abbrev pub invariant-loop-i : goal.invariant-loop-i
invariant-loop-i l = l.sum ≡ (weighed_to l.i l.plan l.t l.symbols l.j).val
