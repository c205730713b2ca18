-- `corkpaddle::files::corkpaddle_take_slip` meets its contract: the answer to a slip, as it crosses, says what is told, and the file is left as `streams::take_slip` leaves it.
use Rattle.corkpaddle.proofs.Coded.{says}
use Rattle.corkpaddle.proofs.files.corkpaddle_take_slip.Goals as goal

pub returns : goal.returns
returns c =
    let t = c.take_slip.ensures in
    record { answer = says t.told c.crossing.ensures; written = t.left }
