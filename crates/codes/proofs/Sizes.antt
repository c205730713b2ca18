-- The numbers of a code that keeps the rules: bounds, and the bytes of a stripe as sums of rows.
-- Assumes nothing.
use mathlib.Core.Path.{◌≡◌, ◌∙◌, sym, ap}
use mathlib.Core.Logic.{⊎_elim}
use Prim.Native.Nat.{ℕ, zero, suc, ◌+◌, ◌*◌, ◌-◌, ◌/◌, ◌≤◌}
use native.Mathlib.Nat.{mul-suc, suc-mul, mul-add, add-mul, mul_comm, mul-le-mul, div-mul-le_self, mul-div_cancel}
use native.Mathlib.Omega.{arith}
use borrow.Author.Tests.{eq-eqb, ne_eqb}
use Rattle.codes.specs.Sizes.{alpha, bytes}
use Rattle.codes.specs.Places.{start}
use Rattle.codes.specs.Rules.{Rules}
use Rattle.codes.specs.declared.Code.{Code}

pub alpha-one : (c : Code) → c.kind ≡ 1 → alpha c ≡ c.d
unfolding alpha
alpha-one c h = simp (eq-eqb _ _ h)

pub alpha-two : (c : Code) → (c.kind ≡ 1 → ⊥) → alpha c ≡ c.k - 1
unfolding alpha
alpha-two c h = simp (ne_eqb _ _ h)

pub bytes_one : (c : Code) → c.kind ≡ 1 → bytes c ≡ c.k * (c.k + 1) / 2 + c.k * (c.d - c.k)
unfolding bytes
bytes_one c h = simp (eq-eqb _ _ h)

pub bytes-two : (c : Code) → (c.kind ≡ 1 → ⊥) → bytes c ≡ c.k * (c.k - 1)
unfolding bytes
bytes-two c h = simp (ne_eqb _ _ h)

-- a product of small numbers is small
pub small : (a b m n : ℕ) → a ≤ m → b ≤ n → a * b ≤ m * n
small a b m n h l = mul-le-mul h l

-- twice where row i begins
pub start-double : (w i : ℕ) → i ≤ w → start w i * 2 ≡ i * (2 * w + 1 - i)
unfolding start
start-double w zero h = omega arith
start-double w (suc i) h =
    let a = 2 * w - i in
    let e : start w i * 2 ≡ i * a + i = start-double w i (omega arith) ∙ ap (λ (t : ℕ). i * t) (omega arith) ∙ mul-suc i a in
    let f : (start w i + (w - i)) * 2 ≡ i * a + a = omega (arith, e) in
    f ∙ sym (suc-mul i a) ∙ ap (λ (t : ℕ). suc i * t) (omega arith)

-- a whole triangle
pub start-whole : (w : ℕ) → start w w * 2 ≡ w * (w + 1)
start-whole w = start-double w w (omega arith) ∙ ap (λ (t : ℕ). w * t) (omega arith)

pub start-closed : (w : ℕ) → w * (w + 1) / 2 ≡ start w w
start-closed w = ap (λ (t : ℕ). t / 2) (sym (start-whole w)) ∙ mul-div_cancel (start w w) (omega arith)

square : (k e : ℕ) → k * (k + 1) + 2 * (k * e) ≤ (k + e) * (k + e + 1)
square k e =
    let p : (k + e) * (k + e + 1) ≡ (k + e) * ((k + 1) + e) = ap (λ (t : ℕ). (k + e) * t) (omega arith) in
    omega (arith, p, add-mul k e ((k + 1) + e), mul-add k (k + 1) e, mul-add e (k + 1) e, mul-add e k 1, mul_comm e k)

-- a message stripe of kind 1 has no more than 496 bytes, and one of kind 2 no more than 240
one-high : (k d : ℕ) → k ≤ d → d ≤ 31 → k * (k + 1) / 2 + k * (d - k) ≤ 496
one-high k d h l =
    omega (arith, div-mul-le_self (k * (k + 1)) 2, square k (d - k), small (k + (d - k)) (k + (d - k) + 1) 31 32 (omega arith) (omega arith))

-- the numbers of a code that keeps the rules
module _ (c : Code) (r : Rules c) where
  pub d-high : c.d ≤ 31
  d-high = omega (arith, r.under, r.most)

  pub second-kind : (c.kind ≡ 1 → ⊥) → c.kind ≡ 2
  second-kind h = ⊎_elim (λ e. absurd (h e)) (λ e. e) r.kinds

  pub k_two : c.kind ≡ 2 → c.k ≤ 16
  k_two h = omega (arith, r.second h, d-high)

  pub alpha-low : 1 ≤ alpha c
  alpha-low = ⊎_elim (λ e. omega (arith, alpha-one c e, r.least, r.order)) (λ e. omega (arith, alpha-two c (λ f. omega arith), r.second e)) r.kinds

  pub alpha-high : alpha c ≤ 31
  alpha-high = ⊎_elim (λ e. omega (arith, alpha-one c e, d-high)) (λ e. omega (arith, alpha-two c (λ f. omega arith), k_two e)) r.kinds

  pub bytes-two-high : c.kind ≡ 2 → bytes c ≤ 240
  bytes-two-high e =
      omega (arith, bytes-two c (λ f. omega arith), small c.k (c.k - 1) 16 15 (k_two e) (omega (arith, k_two e)))

  pub bytes_high : bytes c ≤ 496
  bytes_high =
      ⊎_elim (λ e. omega (arith, bytes_one c e, one-high c.k c.d r.order d-high)) (λ e. omega (arith, bytes-two-high e)) r.kinds

  -- S and then T; S1 and then S2
  pub bytes-one-rows : c.kind ≡ 1 → bytes c ≡ start c.k c.k + c.k * (c.d - c.k)
  bytes-one-rows e = bytes_one c e ∙ ap (λ (t : ℕ). t + c.k * (c.d - c.k)) (start-closed c.k)

  pub bytes-two-rows : c.kind ≡ 2 → bytes c ≡ start (c.k - 1) (c.k - 1) + start (c.k - 1) (c.k - 1)
  bytes-two-rows e =
      let w = c.k - 1 in
      let p : w * (w + 1) ≡ w * c.k = ap (λ (t : ℕ). w * t) (omega (arith, r.least)) in
      omega (arith, bytes-two c (λ f. omega arith), start-whole w, p, mul_comm w c.k)
