-- `serve` is safe: the head is no longer than 45 bytes, and so no longer than the file.
-- Assumes nothing.
use native.Mathlib.Omega.{arith}
use Rattle.std.proofs.lemmas.List.{length-take-le}
use mathlib.Core.Path.{sym}
use Rattle.slips.proofs.serve.Goals as goal

pub slice_bounds-read_full-end-2 : goal.slice_bounds-read_full-end-2
slice_bounds-read_full-end-2 c = sym (length-take-le 45 c.args.file.now (omega arith))

pub slice_bounds-read_full-count : goal.slice_bounds-read_full-count
slice_bounds-read_full-count c = omega (arith, length-take-le 45 c.args.file.now (omega arith))

pub slice_bounds-read_full-start : goal.slice_bounds-read_full-start
slice_bounds-read_full-start c = omega (arith, length-take-le 45 c.args.file.now (omega arith))
