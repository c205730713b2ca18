-- `judging::are_stripes` meets its contract: each D record stands in its turn.
-- Assumes nothing.
use Rattle.std.proofs.Common.{◌∙◌, ◌-◌, refl, rules, tests}
use Rattle.std.proofs.lemmas.Iterator.{YieldsList-from_range}
use Rattle.std.proofs.lemmas.Iterator.Search.{all_from_yields_List}
use Rattle.shares.specs.File.{stripe_good}
use Rattle.shares.proofs.Below.{below-all}
use Rattle.shares.proofs.judging.are_stripes.Goals as goal

pub returns : goal.returns
returns c =
    let a = c.args in
    let p = stripe_good a.a a.file.now in
    all_from_yields_List p _ _ _ c.all.ensures.ran (YieldsList-from_range 0 a.total (a.total - 0) (cc) refl) (λ x b q k. search (rules, tests))
    ∙ below-all p a.total
