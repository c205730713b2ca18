-- `reading::Batch::column` meets its contract. The loop's invariant: each place passed has the byte of its record.
-- Assumes nothing.
use Rattle.std.proofs.Common.{◌≡◌, ℕ, ◌<◌, length, get_or}
use Rattle.batches.specs.Batch.{field_of}
use Rattle.batches.proofs.reading.Batch.column.Given as goal

abbrev pub invariant-loop-r : goal.invariant-loop-r
invariant-loop-r l = record { long : length l.column ≡ 31; each : (k : ℕ) → k < l.r → get_or l.column k 0 ≡ field_of l.at l.self.bytes.now k }
