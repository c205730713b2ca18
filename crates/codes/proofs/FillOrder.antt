-- Where a message's symbol stands, as the code finds it: along a triangle row by row, then in the parts of the matrix.
--   up-here, up_next     the place b of a triangle stands in its first row, or in the triangle without that row
--   up-none              in a triangle without rows
--   rows                 the first two, for a walk along the rows
--   cell-s, cell-t, cell-s1, cell-s2     the cell of a symbol of S, T, S1 and S2
-- Assumes nothing.
use mathlib.Core.Path.{◌≡◌, refl}
use Prim.Native.Nat.{ℕ, zero, suc, ◌+◌, ◌-◌, ◌/◌, ◌%◌, ◌<◌, ◌≤◌}
use native.Mathlib.Nat.{one-mul, zero-mul, sub-zero}
use native.Mathlib.Numerals.{add-one}
use native.Mathlib.Omega.{arith}
use borrow.Author.Tests.{eq-eqb, ne_eqb, lt-ltb, le-ltb}
use Rattle.codes.specs.Places.{start, up_row, up_col}
use Rattle.codes.specs.Matrix.{lane, row_of, col_of}
use Rattle.codes.specs.declared.Code.{Code}

pub up-here : (w b : ℕ) → b < w → (up_row w b ≡ 0) × (up_col w b ≡ b)
unfolding up_row up_col
up-here zero b h = absurd (omega arith)
up-here (suc w) b h = let e = lt-ltb b (suc w) h in (simp e, simp e)

pub up_next : (w b : ℕ) → 0 < w → w ≤ b → (up_row w b ≡ up_row (w - 1) (b - w) + 1) × (up_col w b ≡ up_col (w - 1) (b - w) + 1)
unfolding up_row up_col
up_next zero b z h = absurd (omega arith)
up_next (suc w) b z h =
    let e = le-ltb b (suc w) h in
    let f : suc w - 1 ≡ w = omega arith in
    (simp (e, f, add-one), simp (e, f, add-one))

pub up-none : (w b : ℕ) → w ≡ 0 → (up_row w b ≡ 0) × (up_col w b ≡ 0)
unfolding up_row up_col
up-none zero b e = (refl, refl)
up-none (suc w) b e = absurd (omega arith)

pub ruleset rows = (up-here, up_next)

-- a cell in the triangle of a lane, and one in T
abbrev pub Up : Code → ℕ → ℕ → ℕ → ℕ → Type 0
Up c b l w at = (lane c b ≡ l) × (row_of c b ≡ up_row w at) × (col_of c b ≡ up_col w at)

module _ (c : Code) (b : ℕ) where
  module _ (h : c.kind ≡ 1) where
    pub cell-s : b < start c.k c.k → Up c b 0 c.k b
    unfolding lane row_of col_of
    cell-s l = let e = eq-eqb _ _ h in let f = lt-ltb _ _ l in (simp e, simp (e, f), simp (e, f))

    pub cell-t : start c.k c.k ≤ b
        → (lane c b ≡ 0) × (row_of c b ≡ (b - start c.k c.k) / (c.d - c.k)) × (col_of c b ≡ c.k + (b - start c.k c.k) % (c.d - c.k))
    unfolding lane row_of col_of
    cell-t l = let e = eq-eqb _ _ h in let f = le-ltb _ _ l in (simp e, simp (e, f), simp (e, f))

  module _ (h : c.kind ≡ 1 → ⊥) where
    pub cell-s1 : b < start (c.k - 1) (c.k - 1) → Up c b 0 (c.k - 1) b
    unfolding lane row_of col_of
    cell-s1 l = let e = ne_eqb _ _ h in let f = lt-ltb _ _ l in (simp (e, f), simp (e, f, zero-mul, sub-zero), simp (e, f, zero-mul, sub-zero))

    pub cell-s2 : start (c.k - 1) (c.k - 1) ≤ b → Up c b 1 (c.k - 1) (b - start (c.k - 1) (c.k - 1))
    unfolding lane row_of col_of
    cell-s2 l = let e = ne_eqb _ _ h in let f = le-ltb _ _ l in (simp (e, f), simp (e, f, one-mul), simp (e, f, one-mul))
