-- The block beside the triangle fits in the work room.
use Prim.Native.Nat.{◌+◌, ◌-◌, ◌*◌, ◌<◌}
use native.Mathlib.Nat.{mul_comm}
use native.Mathlib.Omega.{arith}
use Rattle.std.proofs.lemmas.Nat.{mul-add-lt}
use Rattle.codes.proofs.Sizes.{small}
use Rattle.stripes.proofs.Shapes.{block-high}
use Rattle.stripes.proofs.places.beside.Goals as goal

pub overflow_mul-result : goal.overflow_mul-result
overflow_mul-result c = omega (arith, small c.args.i (c.args.d - c.args.k) 31 31 (omega arith) (omega arith))

pub overflow_add-result : goal.overflow_add-result
overflow_add-result c = omega (arith, small c.args.i (c.args.d - c.args.k) 31 31 (omega arith) (omega arith))

pub overflow_add-result-2 : goal.overflow_add-result-2
overflow_add-result-2 c = omega (arith, small c.args.i (c.args.d - c.args.k) 31 31 (omega arith) (omega arith))

pub returns : goal.returns
returns c =
    let s = c.args in
    let e = s.d - s.k in
    let within : s.i * e + s.j < e * s.k = mul-add-lt s.i e s.j s.k (omega arith) (omega arith) in
    (omega arith, omega (arith, within, mul_comm e s.k, block-high s.k e (omega arith), c.start_of.ensures.0))
