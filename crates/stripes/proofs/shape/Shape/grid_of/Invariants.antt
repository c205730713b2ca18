-- The outer invariant: the first i rows are filled; the inner one: so are the first j entries of row i. Each store changes one entry.
use mathlib.Core.Path.{◌≡◌}
use mathlib.Core.List.{List}
use Prim.Native.Nat.{ℕ}
use Rattle.field.specs.declared.Symbol.{Symbol}
use Rattle.algebra.specs.Symbol.{symbol}
use Rattle.codes.specs.Sizes.{none, alpha}
use Rattle.codes.specs.Matrix.{matrix}
use Rattle.codes.specs.declared.Code.{Code}
use Rattle.stripes.specs.Arrays.{symbol_at}
use Rattle.stripes.proofs.Grids.{Shape, Upto, Along}
use Rattle.stripes.proofs.shape.Shape.grid_of.Given as goal

-- what stands in row p and column q
abbrev pub Right : Code → List Symbol → ℕ → ℕ → Symbol → Type 0
Right c w p q x = symbol x.0 ≡ matrix c (symbol_at w) p q

abbrev pub invariant-loop-j : goal.invariant-loop-j
invariant-loop-j l =
    Shape 31 31 l.grid × Upto (Right l.self.code l.room) none (alpha l.self.code) l.i l.grid × Along (Right l.self.code l.room) none l.i l.j l.grid

abbrev pub invariant-loop-i : goal.invariant-loop-i
invariant-loop-i l = Shape 31 31 l.grid × Upto (Right l.self.code l.room) none (alpha l.self.code) l.i l.grid
