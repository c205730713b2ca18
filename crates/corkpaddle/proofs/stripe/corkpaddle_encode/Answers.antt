-- `corkpaddle::stripe::corkpaddle_encode` meets its contract: a code run of another length is refused; any other goes on to `stripes::encode`, which tells no count and leaves the share.
use Rattle.codes.specs.declared.Code.{Code}
use Rattle.stripes.specs.Encode.{encoded, encode_leaves}
use Rattle.corkpaddle.proofs.Coded.{stopped, as_was, goes_on}
use Rattle.corkpaddle.proofs.stripe.corkpaddle_encode.Goals as goal

pub returns-in_default : goal.returns-in_default
returns-in_default c =
    let b = c.in_default.ensures.none in
    record { answer = stopped _ b _ c.refused.ensures; written = as_was _ b _ _ }

pub returns : goal.returns
returns c =
    let s = c.args in
    let p = goes_on _ c.in-Some.ensures.some.0
    (λ (k : Code). encoded k s.node s.message.now s.output.now)
    (λ (k : Code). encode_leaves k s.node s.message.now s.output.now) _
    c.in-Some.ensures.some.1 c.encode.ensures.answer c.encode.ensures.written c.crossing.ensures
    in record { answer = p.0; written = p.1 }
