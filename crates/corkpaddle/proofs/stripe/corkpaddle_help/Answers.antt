-- `corkpaddle::stripe::corkpaddle_help` meets its contract: a code run of another length is refused; any other goes on to `help_into`, which tells no count and leaves the helper's symbol.
use Rattle.codes.specs.declared.Code.{Code}
use Rattle.corkpaddle.specs.Help.{help_told, help_leaves}
use Rattle.corkpaddle.proofs.Coded.{stopped, as_was, goes_on}
use Rattle.corkpaddle.proofs.stripe.corkpaddle_help.Goals as goal

pub returns-in_default : goal.returns-in_default
returns-in_default c =
    let b = c.in_default.ensures.none in
    record { answer = stopped _ b _ c.refused.ensures; written = as_was _ b _ _ }

pub returns : goal.returns
returns c =
    let s = c.args in
    let p = goes_on _ c.in-Some.ensures.some.0
    (λ (k : Code). help_told k s.helper s.failed s.share.now s.output.now)
    (λ (k : Code). help_leaves k s.helper s.failed s.share.now s.output.now) _
    c.in-Some.ensures.some.1 c.help_into.ensures.answer c.help_into.ensures.written c.crossing.ensures
    in record { answer = p.0; written = p.1 }
