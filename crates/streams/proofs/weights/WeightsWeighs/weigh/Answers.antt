-- `weigh` of the powers meets its contract: a power that was made is the field's.
-- Assumes nothing.
use mathlib.Core.Path.{◌∙◌, ap}
use native.Mathlib.Omega.{arith}
use Rattle.field.specs.declared.Symbol.{Symbol}
use Rattle.codes.specs.Sizes.{none}
use Rattle.shares.proofs.Changes.{amount-is}
use Rattle.streams.proofs.weights.WeightsWeighs.weigh.Goals as goal

pub returns-in-Some : goal.returns-in-Some
returns-in-Some c =
    let s = c.args.self.now in
    let p = c.in-Some.ensures.lookup in
    amount-is _ s.point.0 c.args.n _ _ _ c.of.ensures (ap (λ (x : Symbol). x.0) (p.3.1 none) ∙ s.row c.args.n (omega arith)) c.times.ensures
