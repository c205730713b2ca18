-- `collects::msr::halves` meets its contract: before turn u, u rows of P and u of Q are solved.
-- Assumes nothing.
use mathlib.Core.Path.{◌≡◌}
use lib.ListN.{length}
use Rattle.algebra.specs.Bytes.{at}
use Rattle.collects.specs.Squares.{cells}
use Rattle.collects.specs.Gather.{factors, Halves}
use Rattle.collects.proofs.msr.halves.Given as goal

abbrev pub invariant-loop-u : goal.invariant-loop-u
invariant-loop-u l = (length l.h ≡ 31) × Halves l.w (at l.xs) (factors l.w l.rows) (cells l.r) l.u l.h
