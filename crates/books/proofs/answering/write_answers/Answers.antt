-- `answering::write_answers` meets its contract. The loop's invariant: the answers of the stripes passed stand in the output.
-- Assumes nothing.
use mathlib.Core.Path.{◌∙◌, refl, ap}
use Prim.Native.Nat.{ℕ, ◌+◌, ◌*◌}
use native.Mathlib.Omega.{arith}
use lib.ListN.{length}
use Rattle.codes.proofs.Sizes.{alpha-high}
use Rattle.shares.specs.Fields.{code_in}
use Rattle.books.proofs.Judged.{judged}
use Rattle.books.proofs.Sheet.{as_long, help-length, answer-is, answers-start, answers_next}
use Rattle.books.proofs.answering.write_answers.Goals as goal

pub loop-i-init : goal.loop-i-init
loop-i-init c = let s = c.args.file.now in (c.requires.room, answers-start (code_in s) s c.args.row.now.node.0 c.args.output.now)

pub overflow_add-start-in-loop-i : goal.overflow_add-start-in-loop-i
overflow_add-start-in-loop-i c =
    let r = c.args.row.now.accepted in
    omega (arith, c.alpha-a.ensures, alpha-high r.code r.rules, c.stripe_at-start.ensures.1)

pub slice_bounds-symbol-end : goal.slice_bounds-symbol-end
slice_bounds-symbol-end c =
    let r = c.args.row.now.accepted in
    let k = judged c.args.file.now c.args.filed c.requires.judged in
    omega (arith, c.alpha-a.ensures, alpha-high r.code r.rules, c.stripe_at-start.ensures.0, k.long, c.loop-i-test.true)

pub loop-i-preserved : goal.loop-i-preserved
loop-i-preserved c =
    let a = c.args in
    let s = a.file.now in
    let r = a.row.now in
    let i = c.loop-i.i in
    let o = c.loop-i.output in
    let v = c.loop-i.invariant in
    let k = judged s a.filed c.requires.judged in
    let l = ap length c.help_record.ensures ∙ help-length r.node.0 a.filed.node.0 a.filed.count i c.symbol-symbol.result.0 in
    let w = answer-is (code_in s) s r.node.0 r.accepted.code _ _ _ i _ _ _ c.requires.code k.node k.count c.alpha-a.ensures
    (ap (λ (n : ℕ). n + 3) c.stripe_at-start.ensures.0) c.symbol-symbol.ensures c.help_record.ensures in
    let q = c.put.ensures.left in (
      as_long c.put.new.out o c.help_record.result (i * 10) q ∙ v.0,
      answers_next (code_in s) s r.node.0 i _ o _ _ v.1 refl w l (omega (arith, v.0, c.loop-i-test.true)) q,
    )
