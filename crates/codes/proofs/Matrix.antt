-- Each code that keeps the rules is of the general form. Nothing above this file asks for a code's kind to know its matrix.
-- Assumes nothing.
use mathlib.Core.Path.{◌≡◌, ◌∙◌, sym}
use mathlib.Core.Logic.{inl, inr}
use Prim.Native.Nat.{ℕ, ◌+◌, ◌*◌, ◌-◌, ◌≤◌}
use native.Mathlib.Omega.{arith}
use Rattle.algebra.specs.Symbol.{𝟘}
use Rattle.algebra.specs.Sums.{Vec, Grid, Same, SameGrid, Symmetric}
use Rattle.algebra.specs.Collect.{Sizes, Shape}
use Rattle.codes.specs.Sizes.{alpha, bytes}
use Rattle.codes.specs.Matrix.{matrix, lane, row_of, col_of}
use Rattle.codes.specs.Rules.{Rules}
use Rattle.codes.specs.General.{Layout, filled, reading, idx_of}
use Rattle.codes.specs.declared.Code.{Code}
use Rattle.codes.proofs.Sizes.{alpha-one, alpha-two}
use Rattle.codes.proofs.General.{entry-ends, entry-same, shape_same, filled-symmetric, filled-shape, read-filled, filled-read}
use Rattle.codes.proofs.Moved.{place-within}
use Rattle.codes.proofs.Mbr.{layout-mbr, matrix-mbr}
use Rattle.codes.proofs.Msr.{layout-msr, matrix-msr}

module _ {c : Code} (R : Rules c) where
  other : c.kind ≡ 2 → c.kind ≡ 1 → ⊥
  other e f = omega arith

  pub layout : Layout c.k (alpha c) (c.d - alpha c) (bytes c) (idx_of c) (lane c) (row_of c) (col_of c)
  layout = elim R.kinds [
    | inl e ↦ layout-mbr c R e
    | inr e ↦ layout-msr c R e
  ]

  -- alpha is no more than d, so the matrix has alpha + h rows
  pub alpha-most : alpha c ≤ c.d
  alpha-most = elim R.kinds [
    | inl e ↦ omega (arith, alpha-one c e)
    | inr e ↦ omega (arith, alpha-two c (other e), (R.second e).0, (R.second e).1)
  ]

  pub rows_all : alpha c + (c.d - alpha c) ≡ c.d
  rows_all = omega (arith, alpha-most)

  pub matrix-filled : (m : Vec) → SameGrid c.d (alpha c) (matrix c m) (filled (bytes c) (idx_of c) m)
  matrix-filled m i j x y = elim R.kinds [
    | inl e ↦ matrix-mbr c R e m i j x (omega (arith, alpha-one c e))
    | inr e ↦ matrix-msr c R e m i j x (omega (arith, alpha-two c (other e)))
  ]

  -- the sizes that collecting asks
  pub sizes : Sizes c.k (alpha c) (c.d - alpha c)
  sizes = elim R.kinds [
    | inl e ↦ record { core = λ x. omega (arith, alpha-one c e); room = omega (arith, alpha-one c e); wide = λ x. omega (arith, alpha-one c e, R.order) }
    | inr e ↦ (let a : alpha c ≡ c.k - 1 = alpha-two c (other e) in
        record { core = λ x. omega (arith, R.least, (R.second e).1); room = omega (arith, (R.second e).1); wide = λ x. omega (arith, (R.second e).1) })
  ]

  -- ---- the matrix of a message, in the general form

  -- of a message that is 𝟘 past its end
  pub matrix-index : (m : Vec) → ((n : ℕ) → bytes c ≤ n → m n ≡ 𝟘) → SameGrid c.d (alpha c) (matrix c m) (λ r j. m (idx_of c r j))
  matrix-index m z r j x y = matrix-filled m r j x y ∙ entry-ends (bytes c) m z (idx_of c r j)

  pub matrix-symmetric : (m : Vec) → Symmetric (alpha c) (matrix c m)
  matrix-symmetric m i j x y =
      matrix-filled m i j (omega (arith, alpha-most)) y ∙ filled-symmetric layout m i j x y ∙ sym (matrix-filled m j i (omega (arith, alpha-most)) x)

  pub matrix-shape : (m : Vec) → Shape c.k (alpha c) (c.d - alpha c) (matrix c m)
  matrix-shape m = shape_same layout.room (λ r j x y. matrix-filled m r j (omega (arith, rows_all)) y) (filled-shape layout m)

  -- the message is read off its matrix
  pub matrix-read : (m : Vec) → Same (bytes c) (reading (alpha c) (lane c) (row_of c) (col_of c) (matrix c m)) m
  matrix-read m b x =
      matrix-filled m (lane c b * alpha c + row_of c b) (col_of c b)
      (omega (arith, rows_all, layout.order b x, (place-within layout b x).0)) (place-within layout b x).1
      ∙ read-filled layout m b x

  -- and a symmetric grid of the shape is the matrix of the message that is read off it
  pub matrix-back : (W : Grid) → Shape c.k (alpha c) (c.d - alpha c) W → Symmetric (alpha c) W → (m : Vec)
      → Same (bytes c) m (reading (alpha c) (lane c) (row_of c) (col_of c) W) → SameGrid c.d (alpha c) (matrix c m) W
  matrix-back W S Y m e r j x y =
      matrix-filled m r j x y ∙ entry-same (bytes c) e (idx_of c r j) ∙ filled-read layout W S Y r j (omega (arith, rows_all)) y
