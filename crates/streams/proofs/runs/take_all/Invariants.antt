-- `runs::take_all` meets its contract. The loop's invariant: the answers of the records passed are written, the rest is as it was (Going), and the
-- station is still the file's (Ready).
-- Assumes nothing.
use Rattle.std.proofs.Common.{◌≡◌}
use Rattle.std.specs.Slice.Iter.{chunks_rest, chunks_size}
use Rattle.streams.specs.Ready.{Ready}
use Rattle.streams.proofs.Steps.{Going}
use Rattle.streams.proofs.runs.take_all.Given as goal

abbrev pub invariant-loop-slip : goal.invariant-loop-slip
invariant-loop-slip l =
    Going l.initial.file l.run l.initial.answers l.file l.answers (chunks_rest l.slip-iterator) l.written × (chunks_size l.slip-iterator ≡ 10)
    × Ready l.file l.station.code l.station.node.0
