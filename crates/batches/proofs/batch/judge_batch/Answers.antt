-- `batch::judge_batch` meets its contract: the code, the two lengths, then the batch's own faults.
-- Assumes nothing.
use mathlib.Core.Logic.{inl, inr}
use Rattle.codes.proofs.Told.{handed-on}
use Rattle.batches.proofs.Answers.{batch-front, batch-length, batch-on}
use Rattle.batches.proofs.batch.judge_batch.Goals as goal

pub returns-in_err-code-clause-answer : goal.returns-in_err-code-clause-answer
returns-in_err-code-clause-answer c = handed-on _ c.from_residual.result _ c.from_residual.ensures.1 (batch-front _ _ _ _ _ c.in_err-code.ensures.answer)

pub returns-then-bytes-from-clause-answer : goal.returns-then-bytes-from-clause-answer
returns-then-bytes-from-clause-answer c =
    batch-length _ _ _ _ c.in_ok-code.ensures.answer (elim c.then-bytes-from.either [ inl h ↦ inl (λ e. h (cc (c.in_ok-code.ensures.same))) | inr h ↦ inr h.1 ])

pub returns-in_err-judge-clause-answer : goal.returns-in_err-judge-clause-answer
returns-in_err-judge-clause-answer c =
    handed-on _ c.from_residual-in_err-judge.result _ c.from_residual-in_err-judge.ensures.1
    (batch-on _ _ _ _ c.in_ok-code.ensures.answer (cc (c.in_ok-code.ensures.same)) c.if-output-ne34.false (cc (c.in_ok-code.ensures.same, c.in_err-judge.ensures)))

pub returns-clause-answer : goal.returns-clause-answer
returns-clause-answer c =
    batch-on _ _ _ _ c.in_ok-code.ensures.answer (cc (c.in_ok-code.ensures.same)) c.if-output-ne34.false (cc (c.in_ok-code.ensures.same, c.in_ok-judge.ensures))
