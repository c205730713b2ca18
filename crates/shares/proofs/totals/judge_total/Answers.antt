-- `totals::judge_total` meets its contract: an unknown kind comes first, then a total outside its rule; another total changes nothing.
-- Assumes nothing.
use mathlib.Core.Path.{◌∙◌}
use Rattle.shares.proofs.Sizing.{total-fits, kind-first, size-next}
use Rattle.shares.proofs.totals.judge_total.Goals as goal

pub returns-clause-answer : goal.returns-clause-answer
returns-clause-answer c = c.judge.ensures.answer ∙ total-fits _ _ (cc)

pub returns-then-not-is_known : goal.returns-then-not-is_known
returns-then-not-is_known c = record { answer = kind-first _ _ (cc); same = tt }

pub returns-then-not-is_total : goal.returns-then-not-is_total
returns-then-not-is_total c = record { answer = size-next _ _ (cc) (cc); same = tt }
