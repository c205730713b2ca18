-- `corkpaddle::stripe::corkpaddle_judge` meets its contract: a run of another length is refused, and any other is told as `codes::judge` tells it.
use mathlib.Core.Path.{◌∙◌, ap}
use Rattle.codes.specs.Judge.{judged}
use Rattle.corkpaddle.proofs.Coded.{stopped, passed}
use Rattle.corkpaddle.proofs.stripe.corkpaddle_judge.Goals as goal

pub returns-in_default : goal.returns-in_default
returns-in_default c = stopped _ (c.in_default.ensures.none) _ c.refused.ensures

pub returns : goal.returns
returns c =
    passed _ c.in-Some.ensures.some.0
    (c.judge.ensures.answer ∙ ap judged c.in-Some.ensures.some.1) c.crossing.ensures
