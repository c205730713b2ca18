-- `corkpaddle::stripe::corkpaddle_collect` meets its contract: a code run of another length is refused; any other goes on to `collects::collect`, which tells the shares' count and leaves the message stripe.
use Rattle.codes.specs.declared.Code.{Code}
use Rattle.collects.specs.Collect.{collect_told, collect_leaves}
use Rattle.corkpaddle.proofs.Coded.{stopped, as_was, goes_on}
use Rattle.corkpaddle.proofs.stripe.corkpaddle_collect.Goals as goal

pub returns-in_default : goal.returns-in_default
returns-in_default c =
    let b = c.in_default.ensures.none in
    record { answer = stopped _ b _ c.refused.ensures; written = as_was _ b _ _ }

pub returns : goal.returns
returns c =
    let s = c.args in
    let p = goes_on _ c.in-Some.ensures.some.0
    (λ (k : Code). collect_told k s.nodes.now s.counts.now s.shares.now s.output.now)
    (λ (k : Code). collect_leaves k s.nodes.now s.counts.now s.shares.now s.output.now) _
    c.in-Some.ensures.some.1 c.collect.ensures.answer c.collect.ensures.written c.crossing.ensures
    in record { answer = p.0; written = p.1 }
