-- Two answers that meet a promise are equal (specs/Equal.antt): the theorem FUNCTION-equal for each public function of corkpaddle and probe.
-- Assumes nothing.
use mathlib.Core.Path.{◌∙◌, sym}
use Rattle.corkpaddle.proofs.stripe.corkpaddle_judge.Kinds as corkpaddle-judge-kinds
use Rattle.corkpaddle.proofs.stripe.corkpaddle_judge.Reads as corkpaddle-judge-reads
use Rattle.corkpaddle.proofs.stripe.corkpaddle_encode.Kinds as corkpaddle-encode-kinds
use Rattle.corkpaddle.proofs.stripe.corkpaddle_encode.Reads as corkpaddle-encode-reads
use Rattle.corkpaddle.proofs.stripe.corkpaddle_help.Kinds as corkpaddle-help-kinds
use Rattle.corkpaddle.proofs.stripe.corkpaddle_help.Reads as corkpaddle-help-reads
use Rattle.corkpaddle.proofs.stripe.corkpaddle_rebuild.Kinds as corkpaddle-rebuild-kinds
use Rattle.corkpaddle.proofs.stripe.corkpaddle_rebuild.Reads as corkpaddle-rebuild-reads
use Rattle.corkpaddle.proofs.stripe.corkpaddle_collect.Kinds as corkpaddle-collect-kinds
use Rattle.corkpaddle.proofs.stripe.corkpaddle_collect.Reads as corkpaddle-collect-reads
use Rattle.corkpaddle.proofs.files.corkpaddle_judge_file.Kinds as corkpaddle-judge-file-kinds
use Rattle.corkpaddle.proofs.files.corkpaddle_judge_file.Reads as corkpaddle-judge-file-reads
use Rattle.corkpaddle.proofs.files.corkpaddle_take_slip.Kinds as corkpaddle-take-slip-kinds
use Rattle.corkpaddle.proofs.files.corkpaddle_take_slip.Reads as corkpaddle-take-slip-reads
use Rattle.corkpaddle.proofs.files.corkpaddle_answer_for.Kinds as corkpaddle-answer-for-kinds
use Rattle.corkpaddle.proofs.files.corkpaddle_answer_for.Reads as corkpaddle-answer-for-reads
use Rattle.corkpaddle.proofs.reader.corkpaddle_read.Kinds as corkpaddle-read-kinds
use Rattle.corkpaddle.proofs.reader.corkpaddle_read.Reads as corkpaddle-read-reads
use Rattle.corkpaddle.proofs.wholes.corkpaddle_rebuild_batch.Kinds as corkpaddle-rebuild-batch-kinds
use Rattle.corkpaddle.proofs.wholes.corkpaddle_rebuild_batch.Reads as corkpaddle-rebuild-batch-reads
use Rattle.corkpaddle.proofs.wholes.corkpaddle_rebuild_file.Kinds as corkpaddle-rebuild-file-kinds
use Rattle.corkpaddle.proofs.wholes.corkpaddle_rebuild_file.Reads as corkpaddle-rebuild-file-reads
use Rattle.corkpaddle.proofs.wholes.corkpaddle_cut.Kinds as corkpaddle-cut-kinds
use Rattle.corkpaddle.proofs.wholes.corkpaddle_cut.Reads as corkpaddle-cut-reads
use Rattle.probe.proofs.corkpaddle_product.Kinds as corkpaddle-product-kinds
use Rattle.probe.proofs.corkpaddle_product.Reads as corkpaddle-product-reads
use Rattle.probe.proofs.corkpaddle_quotient.Kinds as corkpaddle-quotient-kinds
use Rattle.probe.proofs.corkpaddle_quotient.Reads as corkpaddle-quotient-reads
use Rattle.probe.proofs.corkpaddle_power.Kinds as corkpaddle-power-kinds
use Rattle.probe.proofs.corkpaddle_power.Reads as corkpaddle-power-reads
use Rattle.demands.specs.Equal.{Equal, EqualLeft}
use Rattle.demands.proofs.Only.{answer-only, shown-only}

-- ---- corkpaddle

pub corkpaddle-judge-equal : Equal 1 corkpaddle-judge-kinds.ps corkpaddle-judge-kinds.r corkpaddle-judge-reads.Post
corkpaddle-judge-equal κs a x y s t p q = answer-only x y _ p q

pub corkpaddle-encode-equal : EqualLeft 3 corkpaddle-encode-kinds.ps corkpaddle-encode-kinds.r corkpaddle-encode-reads.Post (λ κs s. s.1.1.1.0.now)
corkpaddle-encode-equal κs a x y s t p q = (answer-only x y _ p.0 q.0, p.1 ∙ sym q.1)

pub corkpaddle-help-equal : EqualLeft 3 corkpaddle-help-kinds.ps corkpaddle-help-kinds.r corkpaddle-help-reads.Post (λ κs s. s.1.1.1.1.0.now)
corkpaddle-help-equal κs a x y s t p q = (answer-only x y _ p.0 q.0, p.1 ∙ sym q.1)

pub corkpaddle-rebuild-equal : EqualLeft 5 corkpaddle-rebuild-kinds.ps corkpaddle-rebuild-kinds.r corkpaddle-rebuild-reads.Post (λ κs s. s.1.1.1.1.1.0.now)
corkpaddle-rebuild-equal κs a x y s t p q = (answer-only x y _ p.0 q.0, p.1 ∙ sym q.1)

pub corkpaddle-collect-equal : EqualLeft 5 corkpaddle-collect-kinds.ps corkpaddle-collect-kinds.r corkpaddle-collect-reads.Post (λ κs s. s.1.1.1.1.0.now)
corkpaddle-collect-equal κs a x y s t p q = (answer-only x y _ p.0 q.0, p.1 ∙ sym q.1)

pub corkpaddle-judge-file-equal : Equal 1 corkpaddle-judge-file-kinds.ps corkpaddle-judge-file-kinds.r corkpaddle-judge-file-reads.Post
corkpaddle-judge-file-equal κs a x y s t p q = answer-only x y _ p q

pub corkpaddle-take-slip-equal : EqualLeft 2 corkpaddle-take-slip-kinds.ps corkpaddle-take-slip-kinds.r corkpaddle-take-slip-reads.Post (λ κs s. s.0.now)
corkpaddle-take-slip-equal κs a x y s t p q = (answer-only x y _ p.0 q.0, p.1 ∙ sym q.1)

pub corkpaddle-answer-for-equal : EqualLeft 2 corkpaddle-answer-for-kinds.ps corkpaddle-answer-for-kinds.r corkpaddle-answer-for-reads.Post (λ κs s. s.1.1.0.now)
corkpaddle-answer-for-equal κs a x y s t p q = (answer-only x y _ p.0 q.0, p.1 ∙ sym q.1)

pub corkpaddle-read-equal : Equal 1 corkpaddle-read-kinds.ps corkpaddle-read-kinds.r corkpaddle-read-reads.Post
corkpaddle-read-equal κs a x y s t p q = shown-only x y _ p q

pub corkpaddle-rebuild-batch-equal : EqualLeft 3 corkpaddle-rebuild-batch-kinds.ps corkpaddle-rebuild-batch-kinds.r corkpaddle-rebuild-batch-reads.Post (λ κs s. s.1.1.1.0.now)
corkpaddle-rebuild-batch-equal κs a x y s t p q = (answer-only x y _ p.0 q.0, p.1 ∙ sym q.1)

pub corkpaddle-rebuild-file-equal : EqualLeft 3 corkpaddle-rebuild-file-kinds.ps corkpaddle-rebuild-file-kinds.r corkpaddle-rebuild-file-reads.Post (λ κs s. s.1.1.1.1.0.now)
corkpaddle-rebuild-file-equal κs a x y s t p q = (answer-only x y _ p.0 q.0, p.1 ∙ sym q.1)

pub corkpaddle-cut-equal : EqualLeft 3 corkpaddle-cut-kinds.ps corkpaddle-cut-kinds.r corkpaddle-cut-reads.Post (λ κs s. s.1.1.1.1.0.now)
corkpaddle-cut-equal κs a x y s t p q = (answer-only x y _ p.0 q.0, p.1 ∙ sym q.1)

-- ---- probe

pub corkpaddle-product-equal : Equal 0 corkpaddle-product-kinds.ps corkpaddle-product-kinds.r corkpaddle-product-reads.Post
corkpaddle-product-equal κs a x y s t p q = p ∙ sym q

pub corkpaddle-quotient-equal : Equal 0 corkpaddle-quotient-kinds.ps corkpaddle-quotient-kinds.r corkpaddle-quotient-reads.Post
corkpaddle-quotient-equal κs a x y s t p q = p ∙ sym q

pub corkpaddle-power-equal : Equal 0 corkpaddle-power-kinds.ps corkpaddle-power-kinds.r corkpaddle-power-reads.Post
corkpaddle-power-equal κs a x y s t p q = p ∙ sym q
