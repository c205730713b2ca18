-- `reading::Batch::has_helpers_of` meets its contract: `all` over the records' numbers.
-- Assumes nothing.
use Rattle.std.proofs.Common.{ℕ, Bool, ◌∙◌, ◌-◌, eqb, refl, rules, tests}
use Rattle.std.proofs.lemmas.Iterator.{YieldsList-from_range}
use Rattle.std.proofs.lemmas.Iterator.Search.{all_from_yields_List}
use Rattle.shares.proofs.Below.{below-all}
use Rattle.batches.specs.Batch.{helper_in}
use Rattle.batches.proofs.reading.Batch.has_helpers_of.Goals as goal

pub returns : goal.returns
returns c =
    let b = c.args.self.now in
    let d = b.code.code.d in
    let p : ℕ → Bool = λ r. eqb (helper_in b.bytes.now r) (helper_in c.args.other.now.bytes.now r) in
    all_from_yields_List p _ _ _ c.all.ensures.ran (YieldsList-from_range 0 d (d - 0) (cc) refl) (λ x b q k. search (rules, tests))
    ∙ below-all p d
