-- `whole::rebuild_file` meets its contract: a refusal of the tests is handed on, else C, N and the D records are put one after the other.
-- Assumes nothing.
use Rattle.std.proofs.Common.{◌∙◌, ap, ap₂, ℕ, List, ◌++◌, length, ◌≡◌, arith, rules}
use Rattle.records.specs.Writing.{put_at}
use Rattle.codes.specs.Told.{done}
use Rattle.codes.specs.Judge.{pair_in}
use Rattle.codes.proofs.Sizes.{d-high, alpha-high}
use Rattle.codes.proofs.Told.{handed-on}
use Rattle.rebuilds.proofs.Answers.{refused-told, refused-leaves, done-told, done-leaves}
use Rattle.shares.specs.Fields.{node_record}
use Rattle.batches.specs.Batch.{count_at}
use Rattle.batches.specs.Whole.{records_from, whole_reasons, whole_told, whole_leaves}
use Rattle.batches.proofs.Answers.{whole-numbered}
use Rattle.batches.proofs.Records.{file-is, records-length}
use Rattle.batches.proofs.whole.rebuild_file.Goals as goal

pub returns-in_err-batches-clause-told : goal.returns-in_err-batches-clause-told
unfolding whole_told
returns-in_err-batches-clause-told c =
    handed-on _ c.from_residual.result _ c.from_residual.ensures.1 (refused-told _ _ _ c.in_err-batches.ensures.answer _)

pub returns-in_err-batches-clause-left : goal.returns-in_err-batches-clause-left
unfolding whole_leaves
returns-in_err-batches-clause-left c = refused-leaves _ _ _ c.in_err-batches.ensures.answer _ _

pub returns-clause-told : goal.returns-clause-told
unfolding whole_told
returns-clause-told c =
    let s = c.args in
    let q = c.in_ok-batches.ensures.same in
    ap done (cc)
    ∙ done-told (whole_reasons s.code s.asked.0 s.stripes s.batches.now s.output.now) (pair_in s.code) c.in_ok-batches.ensures.answer (count_at s.batches.now 0) (whole-numbered _ _ _ _ _)

pub returns-clause-left : goal.returns-clause-left
unfolding whole_leaves
returns-clause-left c =
    let s = c.args in
    let b = c.in_ok-batches.batches in
    let q = c.in_ok-batches.ensures.same in
    let d = rw q.0 at (d-high b.code.code b.code.rules) in
    let a = rw q.0 at (alpha-high b.code.code b.code.rules) in
    let u = c.code_record.result in
    let v = c.node_record.result in
    let w = records_from s.code s.asked.0 s.batches.now 0 s.stripes in
    let lu : length u ≡ 37 = search rules in
    let lv : length v ≡ 8 = search rules in
    let m : v ≡ node_record s.asked.0 s.stripes (count_at s.batches.now 0) = cc (q.1, q.2) in
    (rw (q.0, q.1, q.2) at c.write.ensures) ∙ ap (λ (x : List ℕ). put_at x 45 w) (c.put-2.ensures.left ∙ ap (λ (x : List ℕ). put_at x 37 v) c.put.ensures.left)
    ∙ file-is s.output.now u v w lu lv (omega (arith, records-length s.code s.asked.0 d a s.batches.now 0 s.stripes, c.in_ok-batches.ensures.room))
    ∙ ap₂ (λ (x y : List ℕ). x ++ (y ++ w)) c.code_record.ensures m
    ∙ done-leaves (whole_reasons s.code s.asked.0 s.stripes s.batches.now s.output.now) (pair_in s.code) c.in_ok-batches.ensures.answer _ s.output.now
