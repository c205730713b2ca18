-- What stands from the place on; nothing where the place is past the end.
use Rattle.std.proofs.Common.{◌∙◌, eqb, drop, rules, tests}
use Rattle.std.proofs.lemmas.Iterator.{YieldsList-from_slice}
use Rattle.std.proofs.lemmas.Iterator.Adapters.{YieldsList-from_skip}
use Rattle.std.proofs.lemmas.Iterator.Search.{any_from_yields_List}
use Rattle.stripes.proofs.Tests.{has-is}
use Rattle.stripes.proofs.lists.has.Goals as goal

pub returns : goal.returns
returns c =
    let v = c.args.v in
    let xs = c.args.nodes.now in
    any_from_yields_List (λ y. eqb y v) _ _ _ c.any.ensures.ran (YieldsList-from_skip c.args.from (YieldsList-from_slice xs cc) cc) (λ y b q k. search (rules, tests))
    ∙ has-is v (drop c.args.from xs)
