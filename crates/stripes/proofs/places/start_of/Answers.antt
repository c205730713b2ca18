-- Twice the closed form is a product, which `start-double` gives; the product of small numbers is small.
use mathlib.Core.Path.{sym}
use Prim.Native.Nat.{◌*◌, ◌+◌, ◌-◌}
use native.Mathlib.Nat.{div-eq_of_eq-mul_left}
use native.Mathlib.Omega.{arith}
use Rattle.codes.proofs.Sizes.{start-double, small}
use Rattle.stripes.proofs.places.start_of.Goals as goal

pub overflow_mul-result-2 : goal.overflow_mul-result-2
overflow_mul-result-2 c = omega (arith, small c.args.i (2 * c.args.w + 1 - c.args.i) 31 63 (omega arith) (omega arith))

pub returns : goal.returns
returns c =
    let i = c.args.i in
    let w = c.args.w in
    (div-eq_of_eq-mul_left (omega arith) (sym (start-double w i (omega arith))), omega (arith, small i (2 * w + 1 - i) 31 63 (omega arith) (omega arith)))
