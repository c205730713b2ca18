-- `batch::rebuild_batch` meets its contract: a refusal of the tests is handed on, else the plan of the helpers gives the record.
-- Assumes nothing.
use Rattle.std.proofs.Common.{◌∙◌, sym, ap}
use Rattle.codes.specs.Told.{done}
use Rattle.codes.specs.Judge.{pair_in}
use Rattle.codes.proofs.Sizes.{d-high, alpha-high}
use Rattle.codes.proofs.Told.{handed-on}
use Rattle.rebuilds.proofs.Answers.{refused-told, refused-leaves, done-told, done-leaves}
use Rattle.shares.proofs.Runs.{put_all}
use Rattle.batches.specs.Batch.{count_at, rebuilt_record, batch_reasons, batch_told, batch_leaves}
use Rattle.batches.proofs.Answers.{batch-numbered}
use Rattle.batches.proofs.Records.{record-length}
use Rattle.batches.proofs.batch.rebuild_batch.Goals as goal

pub returns-in_err-batch-clause-told : goal.returns-in_err-batch-clause-told
unfolding batch_told
returns-in_err-batch-clause-told c =
    handed-on _ c.from_residual.result _ c.from_residual.ensures.1 (refused-told _ _ _ c.in_err-batch.ensures.answer _)

pub returns-in_err-batch-clause-left : goal.returns-in_err-batch-clause-left
unfolding batch_leaves
returns-in_err-batch-clause-left c = refused-leaves _ _ _ c.in_err-batch.ensures.answer _ _

pub returns-clause-told : goal.returns-clause-told
unfolding batch_told
returns-clause-told c =
    let s = c.args in
    let q = c.in_ok-batch.ensures.same in
    ap done (cc (q.1))
    ∙ done-told (batch_reasons s.code s.asked.0 s.batch.now s.output.now) (pair_in s.code) c.in_ok-batch.ensures.answer (count_at s.batch.now 0) (batch-numbered _ _ _ _)

pub returns-clause-left : goal.returns-clause-left
unfolding batch_leaves
returns-clause-left c =
    let s = c.args in
    let b = c.in_ok-batch.batch in
    let q = c.in_ok-batch.ensures.same in
    let d = rw q.0 at (d-high b.code.code b.code.rules) in
    let a = rw q.0 at (alpha-high b.code.code b.code.rules) in
    (rw (q.0, q.1) at (c.write.ensures.rebuilt s.asked.0 c.plan.ensures))
    ∙ put_all s.output.now (rebuilt_record s.code s.asked.0 s.batch.now) (record-length s.code s.asked.0 d a s.batch.now ∙ sym c.in_ok-batch.ensures.room)
    ∙ done-leaves (batch_reasons s.code s.asked.0 s.batch.now s.output.now) (pair_in s.code) c.in_ok-batch.ensures.answer _ s.output.now
