-- `reading::read_as` meets its contract: a body that was read lies within the file. Assumes nothing.
use mathlib.Core.Path.{sym}
use Rattle.records.proofs.Whole.{read-inside}
use Rattle.records.proofs.reading.read_as.Goals as goal

pub bounds-file-place : goal.bounds-file-place
bounds-file-place c =
    let f = c.in_ok-found.found in
    (read-inside c.args.file.now c.args.place f.start f.end f.next (sym c.in_ok-found.ensures.answer)).inside
