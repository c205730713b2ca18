-- No count, or a first one and the others: whether one of them is not the first.
use mathlib.Core.Path.{◌∙◌, ap, sym}
use mathlib.Core.Bool.{not}
use borrow.Author.Rules.{rules}
use borrow.Author.Tests.{tests}
use lib.Dec.{eqb}
use Rattle.std.proofs.lemmas.Iterator.{YieldsList-from_slice}
use Rattle.std.proofs.lemmas.Iterator.Search.{any_from_yields_List}
use Rattle.stripes.specs.Lists.{differ}
use Rattle.stripes.proofs.Tests.{differ-none, differ-is}
use Rattle.stripes.proofs.lists.differ.Goals as goal

pub returns-in_default : goal.returns-in_default
returns-in_default c = differ-none _ c.in_default.ensures.cases

pub returns : goal.returns
returns c =
    let x = c.in-Some.first.now in
    let xs = c.in-Some.rest.now in
    any_from_yields_List (λ y. not (eqb y x)) _ _ _ c.any.ensures.ran (YieldsList-from_slice xs cc) (λ y b q k. search (rules, tests))
    ∙ differ-is x xs ∙ sym (ap differ c.in-Some.ensures.cases.0)
