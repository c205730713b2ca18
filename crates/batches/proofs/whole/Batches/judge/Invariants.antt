-- `whole::Batches::judge` meets its contract. The loop's invariant: the batches passed have no fault, so the answer is that of those from i on.
-- Assumes nothing.
use mathlib.Core.Path.{◌≡◌}
use Prim.Native.Nat.{◌-◌}
use Rattle.codes.specs.Told.{answered}
use Rattle.codes.specs.Judge.{pair_in}
use Rattle.batches.specs.Whole.{faults_from}
use Rattle.batches.proofs.whole.Batches.judge.Given as goal

abbrev pub invariant-loop-i : goal.invariant-loop-i
invariant-loop-i l =
    let c = l.self.code.code in
    answered (faults_from c l.asked.0 l.self.bytes.now 0 l.self.total) (pair_in c) 0
    ≡ answered (faults_from c l.asked.0 l.self.bytes.now l.i (l.self.total - l.i)) (pair_in c) 0
