-- `corkpaddle::files::corkpaddle_answer_for` meets its contract: the answer for a failed node, as it crosses, says what is told, and the output is left as `books::answer_for` leaves it.
use Rattle.corkpaddle.proofs.Coded.{says}
use Rattle.corkpaddle.proofs.files.corkpaddle_answer_for.Goals as goal

pub returns : goal.returns
returns c =
    let t = c.answer_for.ensures in
    record { answer = says t.told c.crossing.ensures; written = t.left }
