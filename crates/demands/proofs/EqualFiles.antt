-- Two answers that meet a promise are equal (specs/Equal.antt): the theorem FUNCTION-equal for each public function of shares, books and batches,
-- and for streams::take_slip. is-node-equal speaks of stripes::lists::is_within, which the judge of share files calls.
-- Assumes nothing.
use mathlib.Core.Path.{◌∙◌, sym}
use Rattle.shares.proofs.code_in.Kinds as code-in-kinds
use Rattle.shares.proofs.code_in.Reads as code-in-reads
use Rattle.shares.proofs.judge_file.Kinds as judge-file-kinds
use Rattle.shares.proofs.judge_file.Reads as judge-file-reads
use Rattle.streams.proofs.take_slip.Kinds as take-slip-kinds
use Rattle.streams.proofs.take_slip.Reads as take-slip-reads
use Rattle.stripes.proofs.lists.is_within.Kinds as is-within-kinds
use Rattle.stripes.proofs.lists.is_within.Reads as is-within-reads
use Rattle.shares.proofs.stripe_at.Kinds as stripe-at-kinds
use Rattle.shares.proofs.stripe_at.Reads as stripe-at-reads
use Rattle.shares.proofs.is_total.Kinds as is-total-kinds
use Rattle.shares.proofs.is_total.Reads as is-total-reads
use Rattle.shares.proofs.judge_total.Kinds as judge-total-kinds
use Rattle.shares.proofs.judge_total.Reads as judge-total-reads
use Rattle.shares.proofs.code_record.Kinds as code-record-kinds
use Rattle.shares.proofs.code_record.Reads as code-record-reads
use Rattle.shares.proofs.node_record.Kinds as node-record-kinds
use Rattle.shares.proofs.node_record.Reads as node-record-reads
use Rattle.shares.proofs.stripe_record.Kinds as stripe-record-kinds
use Rattle.shares.proofs.stripe_record.Reads as stripe-record-reads
use Rattle.shares.proofs.help_record.Kinds as help-record-kinds
use Rattle.shares.proofs.help_record.Reads as help-record-reads
use Rattle.books.proofs.cut.Kinds as cut-kinds
use Rattle.books.proofs.cut.Reads as cut-reads
use Rattle.books.proofs.answer_for.Kinds as answer-for-kinds
use Rattle.books.proofs.answer_for.Reads as answer-for-reads
use Rattle.batches.proofs.rebuild_batch.Kinds as rebuild-batch-kinds
use Rattle.batches.proofs.rebuild_batch.Reads as rebuild-batch-reads
use Rattle.batches.proofs.rebuild_file.Kinds as rebuild-file-kinds
use Rattle.batches.proofs.rebuild_file.Reads as rebuild-file-reads
use Rattle.codes.proofs.Only.{accepted-only}
use Rattle.demands.specs.Equal.{Equal, EqualLeft}
use Rattle.demands.proofs.Only.{counted-only, encoded-only, filed-only}

-- ---- shares

pub code-in-equal : Equal 1 code-in-kinds.ps code-in-kinds.r code-in-reads.Post
code-in-equal κs a x y s t p q = p ∙ sym q

pub judge-file-equal : Equal 1 judge-file-kinds.ps judge-file-kinds.r judge-file-reads.Post
judge-file-equal κs a x y s t p q = filed-only x y (p.answer ∙ sym q.answer) (p.node ∙ sym q.node) (p.stripes ∙ sym q.stripes)

pub take-slip-equal : EqualLeft 2 take-slip-kinds.ps take-slip-kinds.r take-slip-reads.Post (λ κs s. s.0.now)
take-slip-equal κs a x y s t p q = (counted-only x y (p.0 ∙ sym q.0), p.1 ∙ sym q.1)

pub is-node-equal : Equal 0 is-within-kinds.ps is-within-kinds.r is-within-reads.Post
is-node-equal κs a x y s t p q = p ∙ sym q

pub stripe-at-equal : Equal 0 stripe-at-kinds.ps stripe-at-kinds.r stripe-at-reads.Post
stripe-at-equal κs a x y s t p q = p.0 ∙ sym q.0

pub is-total-equal : Equal 0 is-total-kinds.ps is-total-kinds.r is-total-reads.Post
is-total-equal κs a x y s t p q = p ∙ sym q

pub judge-total-equal : Equal 0 judge-total-kinds.ps judge-total-kinds.r judge-total-reads.Post
judge-total-equal κs a x y s t p q = accepted-only _ x y p.1 q.1 (p.0 ∙ sym q.0)

pub code-record-equal : Equal 0 code-record-kinds.ps code-record-kinds.r code-record-reads.Post
code-record-equal κs a x y s t p q = p ∙ sym q

pub node-record-equal : Equal 0 node-record-kinds.ps node-record-kinds.r node-record-reads.Post
node-record-equal κs a x y s t p q = p ∙ sym q

pub stripe-record-equal : Equal 1 stripe-record-kinds.ps stripe-record-kinds.r stripe-record-reads.Post
stripe-record-equal κs a x y s t p q = p ∙ sym q

pub help-record-equal : Equal 0 help-record-kinds.ps help-record-kinds.r help-record-reads.Post
help-record-equal κs a x y s t p q = p ∙ sym q

-- ---- books

pub cut-equal : EqualLeft 2 cut-kinds.ps cut-kinds.r cut-reads.Post (λ κs s. s.1.1.1.1.0.now)
cut-equal κs a x y s t p q = (encoded-only x y (p.0 ∙ sym q.0), p.1 ∙ sym q.1)

pub answer-for-equal : EqualLeft 2 answer-for-kinds.ps answer-for-kinds.r answer-for-reads.Post (λ κs s. s.1.1.0.now)
answer-for-equal κs a x y s t p q = (encoded-only x y (p.0 ∙ sym q.0), p.1 ∙ sym q.1)

-- ---- batches

pub rebuild-batch-equal : EqualLeft 2 rebuild-batch-kinds.ps rebuild-batch-kinds.r rebuild-batch-reads.Post (λ κs s. s.1.1.1.0.now)
rebuild-batch-equal κs a x y s t p q = (counted-only x y (p.0 ∙ sym q.0), p.1 ∙ sym q.1)

pub rebuild-file-equal : EqualLeft 2 rebuild-file-kinds.ps rebuild-file-kinds.r rebuild-file-reads.Post (λ κs s. s.1.1.1.1.0.now)
rebuild-file-equal κs a x y s t p q = (counted-only x y (p.0 ∙ sym q.0), p.1 ∙ sym q.1)
