-- `reading::Batch::are_helps` meets its contract: `all` over the records' numbers.
-- Assumes nothing.
use Rattle.std.proofs.Common.{ℕ, Bool, ◌∙◌, ◌-◌, eqb, refl, rules, tests}
use Rattle.std.proofs.lemmas.Iterator.{YieldsList-from_range}
use Rattle.std.proofs.lemmas.Iterator.Search.{all_from_yields_List}
use Rattle.shares.proofs.Below.{below-all}
use Rattle.batches.specs.Batch.{help_kind}
use Rattle.batches.proofs.reading.Batch.are_helps.Goals as goal

pub returns : goal.returns
returns c =
    let d = c.args.self.now.code.code.d in
    let p : ℕ → Bool = λ r. eqb (help_kind c.args.self.now.bytes.now r) 0x48 in
    all_from_yields_List p _ _ _ c.all.ensures.ran (YieldsList-from_range 0 d (d - 0) (cc) refl) (λ x b q k. search (rules, tests))
    ∙ below-all p d
