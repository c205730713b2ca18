-- `collects::gather::gathered` meets its contract, kind by kind.
-- Assumes nothing.
use native.Mathlib.Omega.{arith}
use Rattle.codes.proofs.Sizes.{alpha-one, alpha-two, second-kind}
use Rattle.collects.proofs.Gathering.{gathered-one, gathered-two}
use Rattle.collects.proofs.gather.gathered.Goals as goal

pub returns-then-code-eq-MBR : goal.returns-then-code-eq-MBR
returns-then-code-eq-MBR c =
    let s = c.args.accepted in
    let r = s.rules in
    let e = c.if-code-eq-MBR.true in
    λ X C hx hc. gathered-one s.code r X C c.mbr.result e (c.mbr.ensures X C hx (λ i m j n. hc i m j (omega (arith, alpha-one s.code e))))

pub returns-else-code-eq-MBR : goal.returns-else-code-eq-MBR
returns-else-code-eq-MBR c =
    let s = c.args.accepted in
    let r = s.rules in
    let n = c.if-code-eq-MBR.false in
    λ X C hx hc. gathered-two s.code r X C c.msr.result (second-kind _ r n)
    (c.msr.ensures X C (λ t m. hx t (omega (arith, r.least))) (λ i m j o. hc i (omega (arith, r.least)) j (omega (arith, alpha-two s.code n))))
