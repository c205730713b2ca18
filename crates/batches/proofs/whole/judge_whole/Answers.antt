-- `whole::judge_whole` meets its contract: the code and the total, the two lengths, then the batches in turn.
-- Assumes nothing.
use Rattle.std.proofs.Common.{arith}
use mathlib.Core.Logic.{inl, inr}
use Rattle.codes.proofs.Told.{handed-on}
use Rattle.batches.proofs.Answers.{total-good, whole-front, whole-length, whole-on}
use Rattle.batches.proofs.whole.judge_whole.Goals as goal
use Rattle.batches.proofs.whole.judge_whole.Goals.{then-bytes-from-via-then-bytes-from, then-bytes-from-via-else-bytes-from+then-output-stripe_at}

pub returns-in_err-code-clause-answer : goal.returns-in_err-code-clause-answer
returns-in_err-code-clause-answer c =
    handed-on _ c.from_residual.result _ c.from_residual.ensures.1 (whole-front _ _ _ _ _ _ c.in_err-code.ensures.answer)

pub overflow_cast-total : goal.overflow_cast-total
overflow_cast-total c = omega (arith, total-good c.args.code c.args.stripes c.in_ok-code.ensures.answer)

pub returns-then-bytes-from-clause-answer : goal.returns-then-bytes-from-clause-answer
returns-then-bytes-from-clause-answer c =
    let same = c.in_ok-code.ensures.same in
    whole-length _ _ _ _ _ c.in_ok-code.ensures.answer (elim c.then-bytes-from.branch [
      | then-bytes-from-via-then-bytes-from w ↦ inl (λ e. w.if-bytes-from.true (cc))
      | then-bytes-from-via-else-bytes-from+then-output-stripe_at w ↦ inr (λ e. w.if-output-stripe_at.true (cc (w.stripe_at.ensures.0)))
    ])

pub returns-in_err-judge-clause-answer : goal.returns-in_err-judge-clause-answer
returns-in_err-judge-clause-answer c =
    let same = c.in_ok-code.ensures.same in
    handed-on _ c.from_residual-in_err-judge.result _ c.from_residual-in_err-judge.ensures.1
    (whole-on _ _ _ _ _ c.in_ok-code.ensures.answer (cc) (cc (c.stripe_at.ensures.0)) (cc (c.in_err-judge.ensures)))

pub returns-clause-answer : goal.returns-clause-answer
returns-clause-answer c =
    let same = c.in_ok-code.ensures.same in
    whole-on _ _ _ _ _ c.in_ok-code.ensures.answer (cc) (cc (c.stripe_at.ensures.0)) (cc (c.in_ok-judge.ensures))

pub invariant_of-batches : goal.invariant_of-batches
invariant_of-batches c = record { whole = cc; some = (total-good c.args.code c.args.stripes c.in_ok-code.ensures.answer).0 }
