-- The invariant: the sum is that of the first j products.
use mathlib.Core.Path.{◌∙◌, refl, sym, ap}
use Prim.Native.Nat.{ℕ}
use native.Mathlib.Omega.{arith}
use Rattle.algebra.specs.Symbol.{F, symbol}
use Rattle.algebra.specs.Bytes.{at}
use Rattle.stripes.specs.Lent.{weighed}
use Rattle.stripes.proofs.Lent.{weighed-none, weighed-step, helped-none, helped-is}
use Rattle.stripes.proofs.rows.help_by.Goals as goal

pub returns-then-share-gt31 : goal.returns-then-share-gt31
returns-then-share-gt31 c = helped-none _ _ _ c.if-share-gt31.true

pub loop-j-init : goal.loop-j-init
loop-j-init c = weighed-none _ _ _

pub loop-j-preserved : goal.loop-j-preserved
loop-j-preserved c =
    let s = c.args in
    weighed-step s.row.now s.t.now (at s.share.now) c.loop-j.j _ c.of.result.0 c.loop-j.invariant c.term.ensures refl (ap symbol c.of.ensures)
    c.plus-sum.ensures

pub returns : goal.returns
returns c =
    let s = c.args in
    c.loop-j.invariant ∙ ap (λ (n : ℕ). (weighed n s.row.now s.t.now (at s.share.now)).val) (omega arith)
    ∙ sym (ap (λ (x : F). x.val) (helped-is s.row.now s.t.now s.share.now c.if-share-gt31.false))
