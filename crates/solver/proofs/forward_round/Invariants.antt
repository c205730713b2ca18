-- `solver::forward_round` meets its contract: at place i the row stands within round u, before that place.
use Rattle.std.proofs.Common.{length}
use Rattle.algebra.specs.Levels.{Forward, ForwardTo}
use Rattle.algebra.specs.Bytes.{at}
use Rattle.solver.specs.Passes.{Moves}
use Rattle.solver.proofs.forward_round.Given as goal

abbrev pub invariant-loop-i : goal.invariant-loop-i
invariant-loop-i l = let s = length l.xs in Moves (Forward s l.u (at l.xs)) (ForwardTo s l.u l.i (at l.xs)) l.initial.a l.a
