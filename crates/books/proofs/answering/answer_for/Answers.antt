-- `answering::answer_for` meets its contract: the file's faults first, then the answer's own.
-- Assumes nothing.
use mathlib.Core.Path.{◌∙◌, sym, ap, ap₂, subst}
use Prim.Native.Nat.{ℕ, ◌*◌}
use lib.Dec.{eqb}
use Rattle.codes.specs.Rules.{Rules}
use Rattle.codes.specs.declared.Code.{Code}
use Rattle.codes.specs.declared.Node.{Node}
use Rattle.codes.proofs.Told.{handed-on}
use Rattle.stripes.specs.Lists.{within}
use Rattle.shares.specs.Fields.{code_in}
use Rattle.books.specs.Answer.{answers_from}
use Rattle.books.proofs.Judged.{judged}
use Rattle.books.proofs.Ladders.{answer-file, answer-output, answer-node, answer-repeat, answer-done}
use Rattle.books.proofs.answering.answer_for.Goals as goal

pub returns-in_err-filed : goal.returns-in_err-filed
returns-in_err-filed c =
    let a = c.args in
    let q = answer-file a.file.now a.failed.0 a.output.now _ c.in_err-filed.ensures.answer in
    record { told = handed-on _ c.from_residual.result _ c.from_residual.ensures.1 q.0; left = q.1 }

pub returns-then-output-filed : goal.returns-then-output-filed
returns-then-output-filed c =
    let a = c.args in
    let k = judged a.file.now c.in_ok-filed.filed c.in_ok-filed.ensures in
    let p = ap (λ (n : ℕ). n * 10) (sym k.stripes) in
    let q = answer-output a.file.now a.failed.0 a.output.now k.clear (λ e. c.if-output-filed.true (e ∙ p)) in
    record { told = q.0; left = q.1 }

pub returns-then-not-is_within : goal.returns-then-not-is_within
returns-then-not-is_within c =
    let a = c.args in
    let k = judged a.file.now c.in_ok-filed.filed c.in_ok-filed.ensures in
    let p = c.if-output-filed.false ∙ ap (λ (n : ℕ). n * 10) k.stripes in
    let w = c.is_within.ensures ∙ ap (λ (y : Code). within y a.failed.0) c.code_in-code.ensures in
    let q = answer-node a.file.now a.failed.0 a.output.now k.clear p (sym w ∙ c.if-not-is_within.true) in
    record { told = q.0; left = q.1 }

pub returns-then-eq : goal.returns-then-eq
returns-then-eq c =
    let a = c.args in
    let k = judged a.file.now c.in_ok-filed.filed c.in_ok-filed.ensures in
    let p = c.if-output-filed.false ∙ ap (λ (n : ℕ). n * 10) k.stripes in
    let w = c.is_within.ensures ∙ ap (λ (y : Code). within y a.failed.0) c.code_in-code.ensures in
    let e = c.eq.ensures ∙ ap (eqb a.failed.0) k.node in
    let q = answer-repeat a.file.now a.failed.0 a.output.now k.clear p (sym w ∙ c.if-not-is_within.false) (sym e ∙ c.if-eq.true) in
    record { told = q.0; left = q.1 }

pub invariant_of-new : goal.invariant_of-new
invariant_of-new c =
    let k = judged c.args.file.now c.in_ok-filed.filed c.in_ok-filed.ensures in
    record { rules = subst Rules (sym c.code_in-code.ensures) k.rules }

pub returns : goal.returns
returns c =
    let a = c.args in
    let s = a.file.now in
    let k = judged s c.in_ok-filed.filed c.in_ok-filed.ensures in
    let p = c.if-output-filed.false ∙ ap (λ (n : ℕ). n * 10) k.stripes in
    let w = c.is_within.ensures ∙ ap (λ (y : Code). within y a.failed.0) c.code_in-code.ensures in
    let e = c.eq.ensures ∙ ap (eqb a.failed.0) k.node in
    let x = c.write_answers.ensures ∙ ap₂ (λ (v : Node) (t : ℕ). answers_from (code_in s) s v.0 0 t) c.new-row.ensures.1 k.stripes in
    let q = answer-done s a.failed.0 a.output.now k.clear p (sym w ∙ c.if-not-is_within.false) (sym e ∙ c.if-eq.false) _ x in
    record { told = q.0; left = q.1 }
