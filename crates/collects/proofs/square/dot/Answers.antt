-- `collects::square::dot` meets its contract: before turn i the sum is that of i products.
-- Assumes nothing.
use mathlib.Core.Path.{◌∙◌, refl, ap}
use Prim.Native.Nat.{ℕ}
use native.Mathlib.Omega.{arith}
use Rattle.algebra.specs.Symbol.{symbol}
use Rattle.algebra.specs.Sums.{dot}
use Rattle.algebra.specs.Bytes.{at}
use lib.Bits.{bit_xor}
use Rattle.collects.proofs.Squares.{dot-start, dot-step}
use Rattle.collects.proofs.square.dot.Goals as goal

pub loop-i-init : goal.loop-i-init
loop-i-init c = dot-start _ _

pub loop-i-preserved : goal.loop-i-preserved
loop-i-preserved c =
    let l = c.loop-i in
    let s = c.args in
    ap (λ (x : ℕ). symbol (bit_xor l.sum x)) c.times-sum.ensures ∙ dot-step l.i (at s.u.now) (at s.v.now) l.sum _ _ l.invariant refl refl

pub returns : goal.returns
returns c = c.loop-i.invariant ∙ ap (λ (m : ℕ). dot m (at c.args.u.now) (at c.args.v.now)) (omega arith)
