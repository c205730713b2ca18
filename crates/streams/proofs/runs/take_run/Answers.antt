-- `runs::take_run` meets its contract: without room nothing is done, and with it all records are taken.
-- Assumes nothing.
use native.Mathlib.Omega.{arith}
use Rattle.streams.proofs.Rooms.{no_room, with-room}
use Rattle.streams.proofs.runs.take_run.Goals as goal

pub returns-then-answers-div_ceil : goal.returns-then-answers-div_ceil
returns-then-answers-div_ceil c =
    no_room c.args.file.now c.args.run.now c.args.answers.now (omega (arith, c.if-answers-div_ceil.true, c.div_ceil.ensures))

pub returns : goal.returns
returns c =
    with-room c.args.file.now c.args.run.now c.args.answers.now (omega (arith, c.if-answers-div_ceil.false, c.div_ceil.ensures)) _ _ _ _ c.take_all.ensures
