-- `corkpaddle::stripe::corkpaddle_rebuild` meets its contract: a code run of another length is refused; any other goes on to `rebuilds::rebuild`, which tells the helpers' count and leaves the failed node's share.
use Rattle.codes.specs.declared.Code.{Code}
use Rattle.rebuilds.specs.Rebuild.{rebuild_told, rebuild_leaves}
use Rattle.corkpaddle.proofs.Coded.{stopped, as_was, goes_on}
use Rattle.corkpaddle.proofs.stripe.corkpaddle_rebuild.Goals as goal

pub returns-in_default : goal.returns-in_default
returns-in_default c =
    let b = c.in_default.ensures.none in
    record { answer = stopped _ b _ c.refused.ensures; written = as_was _ b _ _ }

pub returns : goal.returns
returns c =
    let s = c.args in
    let p = goes_on _ c.in-Some.ensures.some.0
    (λ (k : Code). rebuild_told k s.failed s.nodes.now s.symbols.now s.counts.now s.output.now)
    (λ (k : Code). rebuild_leaves k s.failed s.nodes.now s.symbols.now s.counts.now s.output.now) _
    c.in-Some.ensures.some.1 c.rebuild.ensures.answer c.rebuild.ensures.written c.crossing.ensures
    in record { answer = p.0; written = p.1 }
