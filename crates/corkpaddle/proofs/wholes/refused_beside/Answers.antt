-- `corkpaddle::wholes::refused_beside` meets its contract: the total is tested first, and each answer is the misfit of its case.
use mathlib.Core.Path.{◌∙◌, sym}
use Rattle.corkpaddle.proofs.Misfits.{off-total, in-total}
use Rattle.corkpaddle.proofs.wholes.refused_beside.Goals as goal

pub returns-then-not-is_total : goal.returns-then-not-is_total
returns-then-not-is_total c =
    off-total c.args.stripes (sym c.is_total.ensures ∙ c.if-not-is_total.true) c.refused.ensures

pub returns : goal.returns
returns c =
    in-total c.args.stripes (sym c.is_total.ensures ∙ c.if-not-is_total.false) c.refused-2.ensures
