-- `collects::mbr::rests` meets its contract: before turn j, j columns are done.
-- Assumes nothing.
use mathlib.Core.Path.{◌≡◌}
use lib.ListN.{length}
use Rattle.algebra.specs.Symbol.{◌⊕◌}
use Rattle.algebra.specs.Sums.{dot}
use Rattle.collects.specs.Squares.{cells, Holds}
use Rattle.collects.proofs.mbr.rests.Given as goal

abbrev pub invariant-loop-j : goal.invariant-loop-j
invariant-loop-j l =
    (length l.g ≡ 31) × Holds l.j l.k l.g (λ e u. cells l.y e u ⊕ dot l.d (cells l.rows u) (λ o. cells l.far o e))
