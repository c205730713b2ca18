-- `rebuilds::weigh::weighed` meets its contract: before turn i the sum is that of i symbols times their weights.
use mathlib.Core.Path.{◌∙◌}
use native.Mathlib.Omega.{arith}
use Rattle.algebra.proofs.Bytes.{sum-none}
use Rattle.rebuilds.proofs.Weighing.{weighed-next, weighed-whole}
use Rattle.rebuilds.proofs.weigh.weighed.Goals as goal

pub loop-i-init : goal.loop-i-init
loop-i-init c = sum-none _

pub loop-i-preserved : goal.loop-i-preserved
loop-i-preserved c =
    let s = c.args in
    weighed-next s.plan.now s.t.now s.symbols.now s.j c.loop-i.i c.loop-i.invariant (omega (arith, c.times_by-sum.type_inv)) (cc)

pub returns : goal.returns
returns c = c.loop-i.invariant ∙ weighed-whole _ _ _ _ _ (omega arith)
