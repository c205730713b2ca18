-- `weights::powers_of` meets its contract. The loop's invariant: the powers before the one in hand are made.
-- Assumes nothing.
use mathlib.Core.Path.{◌∙◌, ap}
use native.Mathlib.Omega.{arith}
use borrow.Author.Count.{below_more}
use lib.ListN.{length-set}
use lib.Seq.{get_or-set_same, get_or-set_other}
use Rattle.field.specs.declared.Symbol.{Symbol}
use Rattle.codes.specs.Sizes.{none}
use Rattle.streams.proofs.weights.powers_of.Goals as goal

pub loop-i-preserved : goal.loop-i-preserved
loop-i-preserved c =
    let l = c.loop-i in (
      length-set l.p-items l.i c.power.result ∙ l.invariant.0,
      below_more _ _ (λ k h. ap (λ (x : Symbol). x.0) (get_or-set_other l.p-items l.i k c.power.result none (λ e. omega arith)) ∙ l.invariant.1 k h)
          (ap (λ (x : Symbol). x.0) (get_or-set_same l.p-items l.i c.power.result none (omega (arith, l.invariant.0))) ∙ c.power.ensures),
    )
