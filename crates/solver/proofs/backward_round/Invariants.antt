-- `solver::backward_round` meets its contract: at place i the row stands within round u, before that place.
use Rattle.std.proofs.Common.{◌+◌, length}
use Rattle.algebra.specs.Levels.{Backward, BackwardTo}
use Rattle.algebra.specs.Bytes.{at}
use Rattle.solver.specs.Passes.{Moves}
use Rattle.solver.proofs.backward_round.Given as goal

abbrev pub invariant-loop-i : goal.invariant-loop-i
invariant-loop-i l = let s = length l.xs in Moves (Backward s (l.u + 1) (at l.xs)) (BackwardTo s l.u l.i (at l.xs)) l.initial.a l.a
