-- `solver::backward` meets its contract: round by round, from the last to the first.
use Rattle.std.proofs.Common.{length}
use Rattle.algebra.specs.Levels.{Backward}
use Rattle.algebra.specs.Bytes.{at}
use Rattle.solver.specs.Passes.{Moves}
use Rattle.solver.proofs.backward.Given as goal

abbrev pub invariant-loop-u : goal.invariant-loop-u
invariant-loop-u l = let s = length l.xs in Moves (Backward s s (at l.xs)) (Backward s l.u (at l.xs)) l.initial.a l.a
