-- `readers::read_nth` meets its contract. The loop's invariant: the reader is on the way to the record asked for. Assumes nothing.
use Rattle.readers.proofs.Nth.{Way}
use Rattle.readers.proofs.read_nth.Given as goal

abbrev pub invariant-loop : goal.invariant-loop
invariant-loop l = Way l.file l.n l.counter l.reader
