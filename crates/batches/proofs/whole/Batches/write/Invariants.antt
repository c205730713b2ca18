-- `whole::Batches::write` meets its contract. The loop's invariant: the records of the batches passed are put, and the plan is that of the planned batch's helpers.
-- Assumes nothing.
use mathlib.Core.Path.{◌≡◌}
use lib.ListN.{length}
use Rattle.records.specs.Writing.{put_at}
use Rattle.rebuilds.specs.Plan.{plan_of}
use Rattle.batches.specs.Batch.{helpers_in}
use Rattle.batches.specs.Whole.{records_from}
use Rattle.batches.proofs.whole.Batches.write.Given as goal

abbrev pub invariant-loop-i : goal.invariant-loop-i
invariant-loop-i l = record {
  of_code : l.planned.code.code ≡ l.self.code.code;
  planned : l.plan ≡ plan_of l.self.code.code l.asked.0 (helpers_in l.self.code.code.d l.planned.bytes.now);
  long : length l.output ≡ length l.initial.output;
  put : l.output ≡ put_at l.initial.output 45 (records_from l.self.code.code l.asked.0 l.self.bytes.now 0 l.i);
}
