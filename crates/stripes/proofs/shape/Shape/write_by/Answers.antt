-- The steps' promises, put together: each byte written is the product of the lent row with a column of the message matrix.
use mathlib.Core.Path.{◌≡◌, ◌∙◌, ap, fun_ext}
use mathlib.Core.List.{List}
use Prim.Native.Nat.{ℕ}
use native.Mathlib.Omega.{arith}
use Rattle.field.specs.declared.Symbol.{Symbol}
use Rattle.algebra.specs.Sums.{Vec}
use Rattle.algebra.specs.Bytes.{table}
use Rattle.algebra.proofs.Bytes.{table_same}
use Rattle.codes.specs.Sizes.{alpha}
use Rattle.codes.specs.Matrix.{matrix}
use Rattle.codes.specs.declared.Code.{Code}
use Rattle.stripes.specs.Arrays.{symbol_at, cell_at, Held, Filled}
use Rattle.stripes.specs.Lent.{weighed, lent_share}
use Rattle.stripes.proofs.Lent.{weighed-same}
use Rattle.stripes.proofs.Shapes.{d-most, alpha-most}
use Rattle.stripes.proofs.shape.Shape.write_by.Goals as goal

whole : (c : Code) (r t m : List ℕ) (w : List Symbol) (g : List (List Symbol)) → Held m w → Filled g c.d (alpha c) (matrix c (symbol_at w))
    → table (alpha c) (λ j. weighed c.d r t (λ i. cell_at g i j)) ≡ lent_share c r t m
unfolding lent_share
whole c r t m w g held filled =
    table_same (alpha c)
    (λ j h. weighed-same c.d r t (λ i k. filled i k j h ∙ ap (λ (f : Vec). matrix c f i j) (fun_ext held.each)))

pub times-requires : goal.times-requires
times-requires c = let s = c.args.self.now in (d-most _ s.sized, omega (arith, c.requires.1, alpha-most _ s.sized s.known))

pub returns : goal.returns
returns c =
    let s = c.args in
    c.times.ensures ∙ ap (λ (n : ℕ). table n (λ j. weighed s.self.now.code.d s.row.now s.t.now (λ i. cell_at c.grid_of-grid.result i j))) c.requires.1
    ∙ whole _ _ _ _ _ _ c.room_of.ensures c.grid_of-grid.ensures
