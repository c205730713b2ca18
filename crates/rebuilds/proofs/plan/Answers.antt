-- `rebuilds::plan` meets its contract: the plan is the solutions at the helpers' points, folded; where d is more than 31 it is zeros.
use mathlib.Core.Path.{◌∙◌, ap, ap₂}
use Rattle.solver.specs.Basis.{basis_of}
use Rattle.rebuilds.specs.Weights.{folded_rows}
use Rattle.rebuilds.proofs.Weighing.{points-are, plan-none, plan-folds}
use Rattle.rebuilds.proofs.plan.Goals as goal

pub returns-then-code-gt31 : goal.returns-then-code-gt31
returns-then-code-gt31 c = let s = c.args in plan-none s.code s.failed.0 s.nodes.now c.if-code-gt31.true

pub returns : goal.returns
returns c =
    let s = c.args in
    let q = c.points_of.ensures ∙ points-are s.code s.nodes.now in
    c.fold.ensures ∙ ap (folded_rows s.code s.failed.0) (c.basis-solved.ensures ∙ ap₂ basis_of q c.from-d.ensures)
    ∙ plan-folds s.code s.failed.0 s.nodes.now c.if-code-gt31.false
