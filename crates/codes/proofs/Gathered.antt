-- What document 01's two ways of collecting gather is the one grid of algebra's Collect: kind 1 has no core, and kind 2 nothing but core.
-- Assumes nothing.
use mathlib.Core.Path.{◌≡◌, ◌∙◌, sym, ap, subst₂, fun_ext}
use mathlib.Core.Logic.{inl, inr, by_cases}
use Prim.Native.Nat.{ℕ, ◌+◌, ◌*◌, ◌-◌, ◌<◌, ◌≤◌}
use native.Mathlib.Nat.{add-sub_of_le}
use native.Mathlib.Decide.{dec_lt}
use native.Mathlib.Omega.{arith}
use borrow.Author.Tests.{eq-eqb, ne_eqb, lt-ltb, le-ltb}
use Rattle.algebra.specs.Symbol.{◌⊗◌, pow}
use Rattle.algebra.specs.Sums.{Vec, Grid, Same}
use Rattle.algebra.specs.Poly.{interp}
use Rattle.algebra.specs.Hollow.{core₁, core₂}
use Rattle.algebra.specs.Collect.{far, mid, col, known, rest, grid}
use Rattle.algebra.proofs.Ring.{add_none}
use Rattle.algebra.proofs.Sums.{pick-lt, pick-ge}
use Rattle.algebra.proofs.Collect.{span-zero}
use Rattle.codes.specs.Sizes.{alpha, bytes}
use Rattle.codes.specs.Matrix.{lane, row_of, col_of}
use Rattle.codes.specs.General.{reading}
use Rattle.codes.specs.Rules.{Rules}
use Rattle.codes.specs.Collect.{solve_t, solve_s, without, parted_p, parted_q, solve_s1, solve_s2, gathered, message_of}
use Rattle.codes.specs.declared.Code.{Code}
use Rattle.codes.proofs.Sizes.{alpha-one, alpha-two}
use Rattle.codes.proofs.Moved.{place-within}
use Rattle.codes.proofs.Matrix.{layout}

-- ---- kind 1: the columns from k on are T, and the others S

flat-s : (k d : ℕ) (xs : Vec) (w : ℕ → Vec → Vec) (l : Vec) (C : Grid) (r j : ℕ) → r < k → j < k
    → solve_s k d xs C r j ≡ grid k d 0 (λ t. pow (xs t)) (interp k xs) w l C r j
unfolding grid col mid far solve_s solve_t
flat-s k d xs w l C r j a b = sym (pick-ge j 0 _ _ (omega arith) ∙ pick-lt r k _ _ a ∙ pick-lt j k _ _ b)

flat-t : (k d : ℕ) (xs : Vec) (w : ℕ → Vec → Vec) (l : Vec) (C : Grid) (r j : ℕ) → r < k → k ≤ j
    → solve_t k xs C r (j - k) ≡ grid k d 0 (λ t. pow (xs t)) (interp k xs) w l C r j
unfolding grid col mid far solve_t
flat-t k d xs w l C r j a b =
    ap (λ (n : ℕ). interp k xs (λ t. C t n) r) (add-sub_of_le b)
    ∙ sym (pick-ge j 0 _ _ (omega arith) ∙ pick-lt r k _ _ a ∙ pick-ge j k _ _ b)

-- ---- kind 2: nothing is known beforehand, and the grid is its core

rest_at : (k w : ℕ) (p : Grid) (κ : Vec → Vec) (σ : ℕ → Vec → Vec) (l : Vec) (C : Grid) (t j : ℕ) → rest k w w p κ σ l C t j ≡ C t j
unfolding rest known
rest_at k w p κ σ l C t j = add_none (C t j) (span-zero w w {f = λ i. p t i ⊗ col k w w p κ σ l C i j} (λ i a b. absurd (omega arith)))

rest_all : (k w : ℕ) (p : Grid) (κ : Vec → Vec) (σ : ℕ → Vec → Vec) (l : Vec) (C : Grid) → rest k w w p κ σ l C ≡ C
rest_all k w p κ σ l C = fun_ext (λ t. fun_ext (rest_at k w p κ σ l C t))

core-first : (k w : ℕ) (xs : Vec) (κ : Vec → Vec) (C : Grid) (r j : ℕ) → r < w → j < w
    → solve_s1 w xs C r j ≡ grid k w w (λ t. pow (xs t)) κ (without w xs) (λ t. pow (xs t) w) C r j
unfolding grid core₁ solve_s1 parted_p
core-first k w xs κ C r j a b =
    sym (pick-lt j w _ _ b ∙ pick-lt r w _ _ a
    ∙ ap (λ (D : Grid). core₁ w (λ t. pow (xs t)) (without w xs) (λ t. pow (xs t) w) D r j) (rest_all k w (λ t. pow (xs t)) κ (without w xs) (λ t. pow (xs t) w) C))

core-second : (k w : ℕ) (xs : Vec) (κ : Vec → Vec) (C : Grid) (r j : ℕ) → w ≤ r → j < w
    → solve_s2 w xs C (r - w) j ≡ grid k w w (λ t. pow (xs t)) κ (without w xs) (λ t. pow (xs t) w) C r j
unfolding grid core₂ solve_s2 parted_q
core-second k w xs κ C r j a b =
    sym (pick-lt j w _ _ b ∙ pick-ge r w _ _ a ∙ pick-ge r w _ _ a
    ∙ ap (λ (D : Grid). core₂ w (λ t. pow (xs t)) (without w xs) (λ t. pow (xs t) w) D (r - w) j) (rest_all k w (λ t. pow (xs t)) κ (without w xs) (λ t. pow (xs t) w) C))

-- ---- both kinds

-- the grid that the shares C at the points xs fix, of the numbers of the code c
abbrev pub grid_of : Code → Vec → Grid → Grid
grid_of c xs C =
    grid c.k (alpha c) (c.d - alpha c) (λ t. pow (xs t)) (interp c.k xs) (without (c.d - alpha c) xs) (λ t. pow (xs t) (alpha c)) C

module _ (c : Code) (xs : Vec) (C : Grid) (r j : ℕ) where
  -- of the numbers α and h in place of alpha and d - alpha
  Same-as : ℕ → ℕ → Type 0
  Same-as α h = gathered c xs C r j ≡ grid c.k α h (λ t. pow (xs t)) (interp c.k xs) (without h xs) (λ t. pow (xs t) α) C r j

  gathered-one : c.kind ≡ 1 → r < c.k → Same-as c.d 0
  unfolding gathered Same-as
  gathered-one e a =
      by_cases (dec_lt j c.k)
      (λ b. rw (eq-eqb c.kind 1 e, lt-ltb j c.k b) (flat-s c.k c.d xs (without 0 xs) (λ t. pow (xs t) c.d) C r j a b))
      (λ n. let b : c.k ≤ j = omega arith in
      rw (eq-eqb c.kind 1 e, le-ltb j c.k b) (flat-t c.k c.d xs (without 0 xs) (λ t. pow (xs t) c.d) C r j a b))

  gathered-two : (c.kind ≡ 1 → ⊥) → j < c.k - 1 → Same-as (c.k - 1) (c.k - 1)
  unfolding gathered Same-as
  gathered-two n b =
      by_cases (dec_lt r (c.k - 1))
      (λ a. rw (ne_eqb c.kind 1 n, lt-ltb r (c.k - 1) a) (core-first c.k (c.k - 1) xs (interp c.k xs) C r j a b))
      (λ m. let a : c.k - 1 ≤ r = omega arith in
      rw (ne_eqb c.kind 1 n, le-ltb r (c.k - 1) a) (core-second c.k (c.k - 1) xs (interp c.k xs) C r j a b))

-- the message is read off that grid
pub message-grid : {c : Code} → Rules c → (xs : Vec) (C : Grid)
    → Same (bytes c) (message_of c xs C) (reading (alpha c) (lane c) (row_of c) (col_of c) (grid_of c xs C))
unfolding Same-as
message-grid {c} R xs C b h = elim R.kinds [
  | inl e ↦ subst₂ (Same-as c xs C r j) (sym (alpha-one c e)) (omega (arith, alpha-one c e)) (gathered-one c xs C r j e (low e))
  | inr e ↦ subst₂ (Same-as c xs C r j) (sym (alpha-two c (λ o. omega arith))) (omega (arith, alpha-two c (λ o. omega arith), R.least, (R.second e).1))
      (gathered-two c xs C r j (λ o. omega arith) (omega (arith, alpha-two c (λ o. omega arith), (place-within (layout R) b h).1)))
]
  where
    r : ℕ
    r = lane c b * alpha c + row_of c b

    j : ℕ
    j = col_of c b

    low : c.kind ≡ 1 → r < c.k
    low e = elim ((layout R).lies b h) [
      | inl s ↦ omega (arith, ap (λ (q : ℕ). q * alpha c) s.0, s.1)
      | inr s ↦ absurd (omega (arith, s.1, alpha-one c e))
    ]
