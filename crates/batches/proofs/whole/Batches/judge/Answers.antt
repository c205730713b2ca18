-- `whole::Batches::judge` meets its contract. The loop's invariant: the batches passed have no fault, so the answer is that of those from i on.
-- Assumes nothing.
use Rattle.std.proofs.Common.{◌≡◌, ◌∙◌, ℕ, ◌-◌, ◌+◌, sym, ap, arith}
use Rattle.codes.specs.Told.{answered}
use Rattle.codes.specs.Judge.{pair_in}
use Rattle.codes.proofs.Told.{handed-on}
use Rattle.batches.specs.Whole.{faults_from}
use Rattle.batches.proofs.Turns.{turns-none, turn-stops, turn-goes-on}
use Rattle.batches.proofs.whole.Batches.judge.Goals as goal

pub returns-in_err-judge : goal.returns-in_err-judge
returns-in_err-judge c =
    let b = c.args.self.now in
    let i = c.loop-i.i in
    handed-on _ c.from_residual.result _ c.from_residual.ensures.1
    (turn-stops b.code.code c.args.asked.0 b.bytes.now i (b.total - i) (omega arith) _ (cc (c.in_err-judge.ensures)) ∙ sym c.loop-i.invariant)

pub loop-i-preserved : goal.loop-i-preserved
loop-i-preserved c =
    let b = c.args.self.now in
    let i = c.loop-i.i in
    let m : b.total - i - 1 ≡ b.total - (i + 1) = omega arith in
    c.loop-i.invariant ∙ turn-goes-on b.code.code c.args.asked.0 b.bytes.now i (b.total - i) (omega arith) (cc (c.in_ok-judge.ensures))
    ∙ ap (λ (n : ℕ). answered (faults_from b.code.code c.args.asked.0 b.bytes.now (i + 1) n) (pair_in b.code.code) 0) m

pub returns : goal.returns
returns c =
    let b = c.args.self.now in
    let i = c.loop-i.i in
    let m : b.total - i ≡ 0 = omega arith in
    turns-none b.code.code c.args.asked.0 b.bytes.now i
    ∙ sym (c.loop-i.invariant ∙ ap (λ (n : ℕ). answered (faults_from b.code.code c.args.asked.0 b.bytes.now i n) (pair_in b.code.code) 0) m)
