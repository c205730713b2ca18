-- `collects::gather::powers_each` meets its contract: before turn u, u rows are filled.
-- Assumes nothing.
use mathlib.Core.Path.{◌≡◌}
use lib.ListN.{length}
use Rattle.algebra.specs.Symbol.{pow}
use Rattle.algebra.specs.Bytes.{at}
use Rattle.collects.specs.Squares.{Holds}
use Rattle.collects.proofs.gather.powers_each.Given as goal

abbrev pub invariant-loop-u : goal.invariant-loop-u
invariant-loop-u l = (length l.g ≡ 31) × Holds l.u l.n l.g (λ e. pow (at l.xs e))
