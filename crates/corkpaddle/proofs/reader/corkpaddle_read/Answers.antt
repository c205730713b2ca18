-- `corkpaddle::reader::corkpaddle_read` meets its contract: the record that crosses shows what was read, be it a body or a refusal.
use mathlib.Core.Path.{refl}
use Rattle.corkpaddle.proofs.Shown.{shows}
use Rattle.corkpaddle.proofs.reader.corkpaddle_read.Goals as goal

pub returns-in-Ok : goal.returns-in-Ok
returns-in-Ok c = shows c.in-Ok.ensures.answer (record { number = refl; start = refl; end = refl; next = refl })

pub returns-in-Err : goal.returns-in-Err
returns-in-Err c = shows c.in-Err.ensures.answer (record { number = refl; start = refl; end = refl; next = refl })
