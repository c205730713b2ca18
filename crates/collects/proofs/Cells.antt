-- The cells of a message's symbols stand in the message matrix.
--   cell-in-one, cell-in-two     kind by kind, the bounds of a symbol's lane, row and column
-- Assumes nothing.
use mathlib.Core.Path.{◌≡◌, ◌∙◌, ap}
use Prim.Native.Nat.{ℕ, zero, suc, ◌+◌, ◌*◌, ◌-◌, ◌<◌}
use native.Mathlib.Nat.{one-mul, zero-mul, mul-zero, mod-lt, div-lt_iff_lt-mul}
use native.Mathlib.Omega.{arith}
use lib.Dec.{ltb}
use borrow.Author.Tests.{ltb-true, ltb-false}
use Rattle.codes.specs.Sizes.{bytes}
use Rattle.codes.specs.Places.{start}
use Rattle.codes.specs.Matrix.{lane, row_of, col_of}
use Rattle.codes.specs.Rules.{Rules}
use Rattle.codes.specs.declared.Code.{Code}
use Rattle.codes.proofs.Bools.{by-test}
use Rattle.codes.proofs.Sizes.{bytes-one-rows, bytes-two-rows}
use Rattle.codes.proofs.Places.{upper-triangle}
use Rattle.codes.proofs.FillOrder.{cell-s, cell-t, cell-s1, cell-s2}

module _ (c : Code) (r : Rules c) (b : ℕ) (h : b < bytes c) where
  pub cell-in-one : c.kind ≡ 1 → (lane c b ≡ 0) × (row_of c b < c.k) × (col_of c b < c.d)
  cell-in-one e =
      by-test (ltb b (start c.k c.k))
      (λ t. let l = ltb-true _ _ t in
      let u = cell-s c b e l in
      let v = upper-triangle c.k b l in (u.0, omega (arith, u.1, v.order, v.within), omega (arith, u.2, v.within, r.order)))
      (λ t. let l = ltb-false _ _ t in
      let u = cell-t c b e l in
      let n = b - start c.k c.k in
      let d = c.d - c.k in
      let m : n < c.k * d = omega (arith, bytes-one-rows c r e) in
      let z : 0 < d = positive c.k d n m in (
        u.0,
        omega (arith, u.1, (div-lt_iff_lt-mul {k = d} {x = n} {y = c.k} z).1 m),
        omega (arith, u.2, mod-lt n z),
      ))
    where
      positive : (k d n : ℕ) → n < k * d → 0 < d
      positive k zero n m = omega (arith, mul-zero k)
      positive k (suc d) n m = omega arith

  pub cell-in-two : c.kind ≡ 2 → (lane c b * (c.k - 1) + row_of c b < c.d) × (col_of c b < c.k - 1)
  cell-in-two e =
      let w = c.k - 1 in
      let two = r.second e in
      let all = bytes-two-rows c r e in
      let other : c.kind ≡ 1 → ⊥ = λ f. omega arith in
      by-test (ltb b (start w w))
      (λ t. let l = ltb-true _ _ t in
      let u = cell-s1 c b other l in
      let v = upper-triangle w b l in
      let m : lane c b * w ≡ 0 = ap (λ (n : ℕ). n * w) u.0 ∙ zero-mul w in
      (omega (arith, m, u.1, v.order, v.within, two), omega (arith, u.2, v.within)))
      (λ t. let l = ltb-false _ _ t in
      let u = cell-s2 c b other l in
      let v = upper-triangle w (b - start w w) (omega (arith, all)) in
      let m : lane c b * w ≡ w = ap (λ (n : ℕ). n * w) u.0 ∙ one-mul w in
      (omega (arith, m, u.1, v.order, v.within, two), omega (arith, u.2, v.within)))
