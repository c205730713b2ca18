-- `solver::basis` meets its contract: after u turns the first u rows are made.
use Rattle.std.proofs.Common.{◌≡◌}
use Rattle.solver.specs.Rows.{rows_of}
use Rattle.solver.specs.Basis.{basis_at}
use Rattle.solver.proofs.basis.Given as goal

abbrev pub invariant-loop-u : goal.invariant-loop-u
invariant-loop-u l = l.rows ≡ rows_of 31 31 (basis_at l.xs l.s l.u)
