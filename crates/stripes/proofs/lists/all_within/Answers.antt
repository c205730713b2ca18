-- Each node passes the closure's test exactly when it is within the code.
use mathlib.Core.Path.{◌∙◌}
use borrow.Author.Rules.{rules}
use borrow.Author.Tests.{tests}
use Rattle.std.proofs.lemmas.Iterator.{YieldsList-from_slice}
use Rattle.std.proofs.lemmas.Iterator.Search.{all_from_yields_List}
use Rattle.stripes.specs.Lists.{within}
use Rattle.stripes.proofs.Tests.{every-is}
use Rattle.stripes.proofs.lists.all_within.Goals as goal

pub returns : goal.returns
returns c =
    let xs = c.args.nodes.now in
    all_from_yields_List (within c.args.code) _ _ _ c.all.ensures.ran (YieldsList-from_slice xs cc) (λ x b q k. search (rules, tests))
    ∙ every-is (within c.args.code) xs
