-- `collects::sources::are_whole` meets its contract: each test of the code is a part of the definition's.
-- Assumes nothing.
use native.Mathlib.Omega.{arith}
use Rattle.codes.proofs.Sizes.{small, alpha-high, d-high}
use Rattle.collects.proofs.sources.are_whole.Goals as goal

pub overflow_mul-k : goal.overflow_mul-k
overflow_mul-k c =
    let code = c.args.accepted.code in
    let r = c.args.accepted.rules in
    omega (arith, small code.k c.alpha.result 31 31 (omega (arith, r.order, d-high code r)) (omega (arith, c.alpha.ensures, alpha-high code r)))
