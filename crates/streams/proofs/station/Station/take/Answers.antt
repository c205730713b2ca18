-- `Station::take` meets its contract: a refusal is handed on, and a slip without a fault is taken.
-- Assumes nothing.
use Rattle.codes.proofs.Told.{handed-on}
use Rattle.shares.proofs.Faults.{faultless, judged-refused, judged-stays, judged-taken, judged-leaves}
use Rattle.streams.proofs.station.Station.take.Goals as goal

pub returns-in_err-judge : goal.returns-in_err-judge
returns-in_err-judge g c =
    let a = c.args in
    let r = c.in_err-judge.field-0.0 in
    let e = c.in_err-judge.ensures in
    record {
      told = handed-on _ c.from_residual.result r c.from_residual.ensures.1 (judged-refused a.file.now a.slip.now r e);
      left = judged-stays a.file.now a.slip.now r e;
    }

pub take_faultless-requires : goal.take_faultless-requires
take_faultless-requires g c = (faultless c.args.file.now c.args.slip.now c.in_ok-judge.ensures, c.requires)

pub returns : goal.returns
returns g c =
    let a = c.args in
    let h = faultless a.file.now a.slip.now c.in_ok-judge.ensures in
    record { told = judged-taken a.file.now a.slip.now h _ c.take_faultless.ensures.count; left = judged-leaves a.file.now a.slip.now h _ c.take_faultless.ensures.left }
