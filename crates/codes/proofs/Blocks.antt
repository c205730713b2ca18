-- Places in rows of e entries each, read row by row: a place's row and column, and the place of a row and a column, are inverse.
-- Assumes nothing.
use mathlib.Core.Path.{◌≡◌, ◌∙◌, ap}
use Prim.Native.Nat.{ℕ, zero, suc, ◌+◌, ◌*◌, ◌/◌, ◌%◌, ◌<◌}
use native.Mathlib.Nat.{suc-mul, mul-zero, mul-le-mul_right, mul-add-div_right, mul-add-mod_self_right, div-eq_of_lt, mod-eq_of_lt, mod-lt, div-add-mod', div-lt_iff_lt-mul}
use native.Mathlib.Omega.{arith}

pub block_within : {i j k e : ℕ} → i < k → j < e → i * e + j < k * e
block_within {i} {j} {k} {e} a b = omega (arith, suc-mul i e, mul-le-mul_right e a)

pub block_row : (i : ℕ) {j e : ℕ} → j < e → (i * e + j) / e ≡ i
block_row i {j} {e} b = mul-add-div_right (omega arith) i j ∙ ap (λ (n : ℕ). i + n) (div-eq_of_lt b) ∙ omega arith

pub block-col : (i : ℕ) {j e : ℕ} → j < e → (i * e + j) % e ≡ j
block-col i {j} {e} b = mul-add-mod_self_right i e j ∙ mod-eq_of_lt b

pub record Block (k e b : ℕ) : Type 0 where
  pub row : b / e < k
  pub col : b % e < e
  pub back : b / e * e + b % e ≡ b

-- rows with no entry have no place
positive : (k e b : ℕ) → b < k * e → 0 < e
positive k zero b h = absurd (omega (arith, mul-zero k))
positive k (suc e) b h = omega arith

pub block : (k e b : ℕ) → b < k * e → Block k e b
block k e b h =
    let p : 0 < e = positive k e b h in
    record { row = (div-lt_iff_lt-mul p).1 h; col = mod-lt b p; back = div-add-mod' b e }
