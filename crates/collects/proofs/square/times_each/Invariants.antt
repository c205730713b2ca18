-- `collects::square::times_each` meets its contract: before turn j the rows below j are as promised.
-- Assumes nothing.
use mathlib.Core.Path.{◌≡◌}
use lib.ListN.{length}
use Rattle.algebra.specs.Symbol.{𝟘}
use Rattle.algebra.specs.Sums.{pick, dot}
use Rattle.collects.specs.Squares.{cells, Holds}
use Rattle.collects.proofs.square.times_each.Given as goal

abbrev pub invariant-loop-j : goal.invariant-loop-j
invariant-loop-j l =
    (length l.g ≡ 31) × Holds l.j l.m l.g (λ e i. pick e l.from 𝟘 (dot l.n (cells l.y e) (cells l.f i)))
