-- `rebuilds::weigh::factor_of` meets its contract: kind 1 has the factor 0; kind 2 has lambda, the power alpha of the failed node's point.
use Rattle.rebuilds.proofs.Weighing.{factor-none, factor-power}
use Rattle.rebuilds.proofs.weigh.factor_of.Goals as goal

pub returns-then-code-eq-MBR : goal.returns-then-code-eq-MBR
returns-then-code-eq-MBR c = factor-none _ _ c.if-code-eq-MBR.true

pub returns-else-code-eq-MBR : goal.returns-else-code-eq-MBR
returns-else-code-eq-MBR c =
    let s = c.args in
    cc (factor-power s.code s.failed.0 c.if-code-eq-MBR.false)
