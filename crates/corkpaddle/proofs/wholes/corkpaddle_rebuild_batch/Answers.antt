-- `corkpaddle::wholes::corkpaddle_rebuild_batch` meets its contract: a code run of another length is refused; any other goes on to `batches::rebuild_batch`, which tells the helpers' count and leaves the D record.
use Rattle.codes.specs.declared.Code.{Code}
use Rattle.batches.specs.Batch.{batch_told, batch_leaves}
use Rattle.corkpaddle.proofs.Coded.{stopped, as_was, goes_on}
use Rattle.corkpaddle.proofs.wholes.corkpaddle_rebuild_batch.Goals as goal

pub returns-in_default : goal.returns-in_default
returns-in_default c =
    let b = c.in_default.ensures.none in
    record { answer = stopped _ b _ c.refused.ensures; written = as_was _ b _ _ }

pub returns : goal.returns
returns c =
    let s = c.args in
    let p = goes_on _ c.in-Some.ensures.some.0
    (λ (k : Code). batch_told k s.asked s.batch.now s.output.now)
    (λ (k : Code). batch_leaves k s.asked s.batch.now s.output.now) _
    c.in-Some.ensures.some.1 c.rebuild_batch.ensures.told c.rebuild_batch.ensures.left c.crossing.ensures
    in record { answer = p.0; written = p.1 }
