-- `lists::repeats` meets its contract: some node is one of those after it.
-- Assumes nothing.
use mathlib.Core.Path.{◌∙◌, refl}
use Prim.Native.Nat.{ℕ, ◌+◌}
use borrow.Author.Rules.{rules}
use borrow.Author.Tests.{tests}
use lib.ListN.{drop}
use Rattle.std.proofs.lemmas.Iterator.{YieldsList-from_slice}
use Rattle.std.proofs.lemmas.Iterator.Consumers.{YieldsList-from_enumerate}
use Rattle.std.proofs.lemmas.Iterator.Search.{any_from_yields_List}
use Rattle.stripes.specs.Lists.{has}
use Rattle.stripes.proofs.Tests.{repeats-is}
use Rattle.stripes.proofs.lists.repeats.Goals as goal

pub returns : goal.returns
returns c =
    let xs = c.args.nodes.now in
    any_from_yields_List (λ (p : ℕ × ℕ). has p.1 (drop (p.0 + 1) xs)) _ _ _ c.any.ensures.ran
    (YieldsList-from_enumerate (YieldsList-from_slice xs cc) cc)
    (λ x b q k. search (rules, tests))
    ∙ repeats-is xs xs 0 refl
