-- `collects::mbr::rest` meets its contract: before turn u, u entries are what is left.
-- Assumes nothing.
use mathlib.Core.Path.{◌≡◌}
use lib.ListN.{length}
use Rattle.algebra.specs.Symbol.{◌⊕◌}
use Rattle.algebra.specs.Sums.{Same, dot}
use Rattle.algebra.specs.Bytes.{at}
use Rattle.collects.specs.Squares.{cells}
use Rattle.collects.proofs.mbr.rest.Given as goal

abbrev pub invariant-loop-u : goal.invariant-loop-u
invariant-loop-u l = (length l.v ≡ 31) × Same l.u (at l.v) (λ e. at l.y e ⊕ dot l.d (cells l.rows e) (at l.r))
