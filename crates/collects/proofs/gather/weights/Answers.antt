-- `collects::gather::weights` meets its contract: the basis solutions give the solution for any values.
-- Assumes nothing.
use mathlib.Core.Path.{◌∙◌, refl, ap}
use mathlib.Core.List.{List}
use Prim.Native.Nat.{ℕ}
use native.Mathlib.Omega.{arith}
use Rattle.collects.specs.Squares.{cells}
use Rattle.algebra.proofs.Sums.{dot-same}
use Rattle.solver.proofs.Solutions.{basis-any}
use borrow.Author.Rules.{rules}
use Rattle.collects.proofs.gather.weights.Goals as goal

pub returns : goal.returns
returns c =
    let s = c.args in
    λ ys i h. dot-same s.s (λ t m. refl)
    (λ t m. c.flip.ensures i (omega arith) t (omega arith) ∙ ap (λ (b : List (List ℕ)). cells b t i) c.basis.ensures)
    ∙ basis-any s.xs s.s (search rules) ys i h
