-- `rebuilds::weigh::fold` meets its contract: before turn u, u rows are folded and the others are zero.
use mathlib.Core.Path.{◌≡◌}
use Rattle.algebra.specs.Symbol.{symbol}
use Rattle.solver.specs.Rows.{rows_of}
use Rattle.rebuilds.specs.Weights.{folded_by, rows_to}
use Rattle.rebuilds.proofs.weigh.fold.Given as goal

abbrev pub invariant-loop-u : goal.invariant-loop-u
invariant-loop-u l = l.p ≡ rows_of 31 31 (rows_to l.u (folded_by l.a (symbol l.l) l.solved))
