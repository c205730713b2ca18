-- `judging::is_stripe` meets its contract: a refusal by the reader, by the stripe's number, or by the symbols past alpha.
-- Assumes nothing.
use mathlib.Core.Path.{◌∙◌, sym}
use native.Mathlib.Omega.{arith}
use borrow.Author.Tests.{ne_eqb}
use Rattle.shares.proofs.Stripes.{stripe-none, stripe-other, stripe-spare, stripe-room}
use Rattle.shares.proofs.judging.is_stripe.Goals as goal

pub returns-in_default : goal.returns-in_default
returns-in_default c =
    let a = c.args in
    stripe-none a.a a.file.now a.i _ c.stripe_at.ensures.0 _ (sym c.in_default.ensures.answer)

pub is_spare-requires : goal.is_spare-requires
is_spare-requires c = omega (arith, stripe-room c.args.file.now _ _ _ _ (sym c.in-Ok.ensures.answer))

pub returns-then-number2-i : goal.returns-then-number2-i
returns-then-number2-i c =
    let a = c.args in
    c.is_spare.ensures ∙ stripe-spare a.a a.file.now a.i _ c.stripe_at.ensures.0 _ _ _ _ (sym c.in-Ok.ensures.answer) c.number2.ensures c.if-number2-i.true

pub returns-else-number2-i : goal.returns-else-number2-i
returns-else-number2-i c =
    let a = c.args in
    ne_eqb _ _ c.if-number2-i.false
    ∙ stripe-other a.a a.file.now a.i _ c.stripe_at.ensures.0 _ _ _ _ (sym c.in-Ok.ensures.answer) c.number2.ensures c.if-number2-i.false
