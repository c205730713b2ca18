-- `reading::Batch::write` meets its contract: the plan is applied to the symbols' column, and its record put.
-- Assumes nothing.
use Rattle.std.proofs.Common.{◌∙◌, ◌≤◌, ◌<◌, ℕ, get_or, rules, sym, ap, ap₂, List, replicate, arith}
use lib.ListN.{take, length-replicate}
use lib.Seq.{get_or-take, length-take-le, length_front}
use Rattle.records.specs.Writing.{put_at}
use Rattle.codes.proofs.Sizes.{d-high, alpha-high}
use Rattle.rebuilds.specs.Plan.{applied}
use Rattle.shares.specs.Fields.{stripe_record}
use Rattle.batches.specs.Batch.{symbol_in}
use Rattle.batches.proofs.Fields.{list_at}
use Rattle.batches.proofs.Records.{record_is, share_back, take-zeros}
use Rattle.batches.proofs.reading.Batch.write.Goals as goal

pub slice_bounds-share-end : goal.slice_bounds-share-end
slice_bounds-share-end c = let b = c.args.self.now.code in omega (arith, c.alpha-a.ensures, alpha-high b.code b.rules)

pub slice_bounds-rebuild_by-end-2 : goal.slice_bounds-rebuild_by-end-2
slice_bounds-rebuild_by-end-2 c =
    let b = c.args.self.now.code in
    let a = c.alpha-a.result in
    sym (length-take-le a (replicate 31 0) (omega (arith, length-replicate {A = ℕ} 31 0, c.alpha-a.ensures, alpha-high b.code b.rules)))

pub slice_bounds-share-end-2 : goal.slice_bounds-share-end-2
slice_bounds-share-end-2 c =
    let b = c.args.self.now.code in
    let l = length_front (replicate 31 0) c.rebuild_by.new.output c.alpha-a.result c.rebuild_by.auto.output in
    omega (arith, c.alpha-a.ensures, alpha-high b.code b.rules, l, length-replicate {A = ℕ} 31 0)

pub slice_bounds-stripe_record-end : goal.slice_bounds-stripe_record-end
slice_bounds-stripe_record-end c =
    let b = c.args.self.now.code in
    let a = c.alpha-a.result in
    let e = c.rebuild_by.new.output in
    let l = length_front (replicate 31 0) e a c.rebuild_by.auto.output in
    sym (length-take-le a _ (omega (arith, c.alpha-a.ensures, alpha-high b.code b.rules, l, length-replicate {A = ℕ} 31 0)))

pub returns-clause-by_plan : goal.returns-clause-by_plan
returns-clause-by_plan c =
    let s = c.args in
    let k = s.self.now.code in
    let a = c.alpha-a.result in
    let h : a ≤ 31 = omega (arith, c.alpha-a.ensures, alpha-high k.code k.rules) in
    let e = c.rebuild_by.new.output in
    let z = take-zeros a 31 h ∙ ap (λ (n : ℕ). replicate n 0) c.alpha-a.ensures in
    c.put.ensures.left
    ∙ ap (put_at s.output.now s.at)
    (c.stripe_record.ensures
    ∙ ap₂ stripe_record c.stripe.ensures
    (share_back a e (replicate 31 0) h (length-replicate {A = ℕ} 31 0) c.rebuild_by.auto.output ∙ c.rebuild_by.ensures
    ∙ ap₂ (λ (x y : List ℕ). applied s.plan.now s.t.now.bytes x y) (ap (λ (n : ℕ). take n c.column-symbols.result) c.d-d.ensures ∙ c.column-symbols.ensures) z))

pub returns-clause-rebuilt : goal.returns-clause-rebuilt
returns-clause-rebuilt c f p =
    let s = c.args in
    let b = s.self.now in
    let k = b.code.code in
    let d = d-high k b.code.rules in
    let m = alpha-high k b.code.rules in
    let y : (t : ℕ) → get_or c.column-symbols.result t 0 < 256 = λ t. search rules in
    let small : (t : ℕ) → t < k.d → symbol_in b.bytes.now t < 256 = λ t l.
    let e = sym (get_or-take k.d c.column-symbols.result t 0 l) ∙ ap (λ (x : List ℕ). get_or x t 0) c.column-symbols.ensures in
    omega (arith, y t, e ∙ list_at k.d (symbol_in b.bytes.now) t l) in
    returns-clause-by_plan c
    ∙ ap (put_at s.output.now s.at) (ap (stripe_record _) (cc (s.t.now.right)) ∙ record_is k f d m b.bytes.now small)
