-- `collects::gather::shares_in` meets its contract: before turn u, u shares are copied.
-- Assumes nothing.
use mathlib.Core.Path.{◌≡◌}
use Prim.Native.Nat.{◌+◌, ◌*◌}
use lib.ListN.{length}
use Rattle.algebra.specs.Bytes.{at}
use Rattle.collects.specs.Squares.{Holds}
use Rattle.collects.proofs.gather.shares_in.Given as goal

abbrev pub invariant-loop-u : goal.invariant-loop-u
invariant-loop-u l = (length l.g ≡ 31) × Holds l.u l.a l.g (λ e j. at l.run (e * l.a + j))
