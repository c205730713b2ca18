-- `solver::forward` meets its contract: round by round.
use Rattle.std.proofs.Common.{length}
use Rattle.algebra.specs.Levels.{Forward}
use Rattle.algebra.specs.Bytes.{at}
use Rattle.solver.specs.Passes.{Moves}
use Rattle.solver.proofs.forward.Given as goal

abbrev pub invariant-loop-u : goal.invariant-loop-u
invariant-loop-u l = let s = length l.xs in Moves (Forward s 0 (at l.xs)) (Forward s l.u (at l.xs)) l.initial.a l.a
