-- `solver::basis` meets its contract: after u turns the first u rows are made.
use Rattle.std.proofs.Common.{rules}
use Rattle.solver.proofs.Solutions.{basis-more}
use Rattle.solver.proofs.basis.Goals as goal

pub loop-u-preserved : goal.loop-u-preserved
loop-u-preserved c =
    let a = c.args in
    let l = c.loop-u in
    rw l.invariant (basis-more a.xs a.s l.u _ (search rules) (search rules) (search rules) (search rules) (search rules) c.solution.ensures)
