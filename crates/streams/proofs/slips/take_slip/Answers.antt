-- `slips::take_slip` meets its contract: the file's faults come first.
-- Assumes nothing.
use mathlib.Core.Path.{◌∙◌}
use Rattle.codes.proofs.Told.{handed-on}
use Rattle.shares.proofs.Faults.{file-refused, file-stays, slip-told, slip-left}
use Rattle.shares.proofs.Ladder.{file-clear}
use Rattle.streams.proofs.slips.take_slip.Goals as goal

pub returns-in_err-judge_file : goal.returns-in_err-judge_file
returns-in_err-judge_file c =
    let a = c.args in
    let r = c.in_err-judge_file.field-0.0 in
    let e = c.in_err-judge_file.ensures.answer in
    record {
      told = handed-on _ c.from_residual.result r c.from_residual.ensures.1 (file-refused a.file.now a.slip.now r e);
      left = file-stays a.file.now a.slip.now r e;
    }

pub returns : goal.returns
returns c =
    let a = c.args in
    let h = file-clear a.file.now _ c.in_ok-judge_file.ensures.answer in
    record { told = c.take.ensures.told ∙ slip-told a.file.now a.slip.now h; left = c.take.ensures.left ∙ slip-left a.file.now a.slip.now h }
