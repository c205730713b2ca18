-- Polynomials: at s distinct points one polynomial of s coefficients, and no other, has given values. It is `interp`.
use mathlib.Core.Path.{◌≡◌, ◌∙◌, refl, sym, ap, ap₂}
use mathlib.Core.Logic.{◌≢◌, by_cases}
use Prim.Native.Nat.{ℕ, zero, suc, ◌<◌, ◌≤◌}
use native.Mathlib.Nat.{not-suc-le-zero, le_of_suc-le-suc, suc_inj}
use native.Mathlib.Decide.{dec_lt}
use native.Mathlib.Omega.{arith}
use Rattle.algebra.specs.Symbol.{F, ◌⊕◌, ◌⊗◌, 𝟘, pow}
use Rattle.algebra.specs.Sums.{Vec, Same, ◌⊞◌, sum, dot}
use Rattle.algebra.specs.Poly.{tail, ev, newton, quo, slopes, interp, Distinct}
use Rattle.algebra.proofs.Ring.{ring, mul_assoc, one-mul, equal, vanish, mul-over, mul-cancel, none-add}
use Rattle.algebra.proofs.Sums.{sum_head, sum_same, sum-mul, dot-add}

-- ---- values

pub ev-same : (s : ℕ) {p q : Vec} (x : F) → Same s p q → ev s p x ≡ ev s q x
unfolding ev
ev-same zero x e = refl
ev-same (suc s) x e = ap₂ ◌⊕◌ (e 0 (omega arith)) (ap (λ (y : F). x ⊗ y) (ev-same s x (λ i h. e (suc i) (omega arith))))

-- P6: the value is the row of powers times the coefficients
pub ev-dot : (s : ℕ) (p : Vec) (x : F) → ev s p x ≡ dot s (pow x) p
unfolding ev sum pow
ev-dot zero p x = refl
ev-dot (suc s) p x =
    ap₂ ◌⊕◌ (sym (one-mul (p 0))) (ap (λ (y : F). x ⊗ y) (ev-dot s (tail p) x) ∙ sym (sum-mul s x _) ∙ sum_same s (λ i h. sym (mul_assoc _ _ _)))
    ∙ sym (sum_head s (λ i. pow x i ⊗ p i))

pub ev-add : (s : ℕ) (p q : Vec) (x : F) → ev s (p ⊞ q) x ≡ ev s p x ⊕ ev s q x
ev-add s p q x = ev-dot s (p ⊞ q) x ∙ dot-add s (pow x) p q ∙ sym (ap₂ ◌⊕◌ (ev-dot s p x) (ev-dot s q x))

-- ---- Newton's step and division

-- P1: the value of Newton's step y + (X + x) q
pub ev-newton : (s : ℕ) (y x : F) (q : Vec) (z : F) → q s ≡ 𝟘 → ev (suc s) (newton y x q) z ≡ y ⊕ (z ⊕ x) ⊗ ev s q z
unfolding ev newton
ev-newton zero y x q z e = rw e (simp ring)
ev-newton (suc s) y x q z e =
    ap (λ (r : F). y ⊕ x ⊗ q 0 ⊕ z ⊗ r) (ev-newton s (q 0) x (tail q) z e) ∙ simp ring

-- its entries, as a loop over an array computes them
pub newton-none : (y x : F) (q : Vec) → newton y x q 0 ≡ y ⊕ x ⊗ q 0
unfolding newton
newton-none y x q = refl

pub newton-more : (y x : F) (q : Vec) (i : ℕ) → newton y x q (suc i) ≡ q i ⊕ x ⊗ q (suc i)
unfolding newton
newton-more y x q zero = refl
newton-more y x q (suc i) = newton-more (q 0) x (tail q) i

-- P2: a polynomial is its value at x and (X + x) times its quotient
pub newton-quo : (s : ℕ) (p : Vec) (x : F) → Same (suc s) (newton (ev (suc s) p x) x (quo s p x)) p
unfolding ev newton quo
newton-quo zero p x zero h = simp ring
newton-quo zero p x (suc i) h = absurd (omega arith)
newton-quo (suc s) p x zero h = simp ring
newton-quo (suc s) p x (suc i) h = newton-quo s (tail p) x i (le_of_suc-le-suc h)

pub quo-past : (s : ℕ) (p : Vec) (x : F) (i : ℕ) → s ≤ i → quo s p x i ≡ 𝟘
unfolding quo
quo-past zero p x i h = refl
quo-past (suc s) p x zero h = absurd (not-suc-le-zero h)
quo-past (suc s) p x (suc i) h = quo-past s (tail p) x i (le_of_suc-le-suc h)

pub divide : (s : ℕ) (p : Vec) (x z : F) → ev (suc s) p z ≡ ev (suc s) p x ⊕ (z ⊕ x) ⊗ ev s (quo s p x) z
divide s p x z =
    sym (ev-same (suc s) z (newton-quo s p x)) ∙ ev-newton s (ev (suc s) p x) x (quo s p x) z (quo-past s p x s (omega arith))

newton-zero : (y x : F) (q : Vec) → y ≡ 𝟘 → ((i : ℕ) → q i ≡ 𝟘) → (i : ℕ) → newton y x q i ≡ 𝟘
unfolding newton
newton-zero y x q e d zero = rw (e, d 0) (simp ring)
newton-zero y x q e d (suc i) = newton-zero (q 0) x (tail q) (d 0) (λ j. d (suc j)) i

newton-past : (s : ℕ) (y x : F) (q : Vec) → ((i : ℕ) → s ≤ i → q i ≡ 𝟘) → (i : ℕ) → suc s ≤ i → newton y x q i ≡ 𝟘
unfolding newton
newton-past s y x q d zero h = absurd (not-suc-le-zero h)
newton-past zero y x q d (suc i) h = newton-zero (q 0) x (tail q) (d 0 (omega arith)) (λ j. d (suc j) (omega arith)) i
newton-past (suc s) y x q d (suc i) h = newton-past s (q 0) x (tail q) (λ j k. d (suc j) (omega arith)) i (le_of_suc-le-suc h)

pub interp-past : (s : ℕ) (xs ys : Vec) (i : ℕ) → s ≤ i → interp s xs ys i ≡ 𝟘
unfolding interp
interp-past zero xs ys i h = refl
interp-past (suc s) xs ys i h =
    newton-past s (ys 0) (xs 0) (interp s (tail xs) (slopes xs ys))
    (interp-past s (tail xs) (slopes xs ys)) i h

-- ---- one solution, and no other

distinct_tail : (s : ℕ) {xs : Vec} → Distinct (suc s) xs → Distinct s (tail xs)
distinct_tail s d i j h k n = d (suc i) (suc j) (omega arith) (omega arith) (λ e. n (suc_inj e))

-- the first point differs from the others
apart : (s : ℕ) {xs : Vec} → Distinct (suc s) xs → (t : ℕ) → t < s → xs (suc t) ⊕ xs 0 ≢ 𝟘
apart s d t h e = d (suc t) 0 (omega arith) (omega arith) (omega arith) (equal e)

-- P3: interp has the given values
pub ev-interp : (s : ℕ) (xs ys : Vec) → Distinct s xs → (t : ℕ) → t < s → ev s (interp s xs ys) (xs t) ≡ ys t
unfolding interp
ev-interp zero xs ys d t h = absurd (not-suc-le-zero h)
ev-interp (suc s) xs ys d zero h =
    ev-newton s (ys 0) (xs 0) (interp s (tail xs) (slopes xs ys)) (xs 0) (interp-past s (tail xs) (slopes xs ys) s (omega arith))
    ∙ simp ring
ev-interp (suc s) xs ys d (suc t) h =
    ev-newton s (ys 0) (xs 0) (interp s (tail xs) (slopes xs ys)) (xs (suc t)) (interp-past s (tail xs) (slopes xs ys) s (omega arith))
    ∙ ap (λ (e : F). ys 0 ⊕ (xs (suc t) ⊕ xs 0) ⊗ e) (ev-interp s (tail xs) (slopes xs ys) (distinct_tail s d) t (le_of_suc-le-suc h))
    ∙ ap (λ (e : F). ys 0 ⊕ e) (mul-over (ys (suc t) ⊕ ys 0) (apart s d t (le_of_suc-le-suc h)))
    ∙ simp ring

-- the quotient by one root has the other roots
root-quo : (s : ℕ) (xs p : Vec) → Distinct (suc s) xs → ((t : ℕ) → t < suc s → ev (suc s) p (xs t) ≡ 𝟘)
    → (t : ℕ) → t < s → ev s (quo s p (xs 0)) (xs (suc t)) ≡ 𝟘
root-quo s xs p d e t h =
    mul-cancel (apart s d t h) (sym (none-add _ (e 0 (omega arith))) ∙ sym (divide s p (xs 0) (xs (suc t))) ∙ e (suc t) (omega arith))

-- P5: a polynomial with as many distinct roots as coefficients is zero
pub roots-zero : (s : ℕ) (xs p : Vec) → Distinct s xs → ((t : ℕ) → t < s → ev s p (xs t) ≡ 𝟘) → Same s p (λ i. 𝟘)
roots-zero zero xs p d e i h = absurd (not-suc-le-zero h)
roots-zero (suc s) xs p d e i h =
    sym (newton-quo s p (xs 0) i h)
    ∙ newton-zero (ev (suc s) p (xs 0)) (xs 0) (quo s p (xs 0)) (e 0 (omega arith))
    (λ j. by_cases (dec_lt j s) (roots-zero s (tail xs) (quo s p (xs 0)) (distinct_tail s d) (root-quo s xs p d e) j) (λ n. quo-past s p (xs 0) j (omega arith))) i

-- P5: no other polynomial has the given values
pub interp-only : (s : ℕ) (xs ys p : Vec) → Distinct s xs → ((t : ℕ) → t < s → ev s p (xs t) ≡ ys t) → Same s p (interp s xs ys)
interp-only s xs ys p d e i h =
    equal (roots-zero s xs (p ⊞ interp s xs ys) d (λ t k. ev-add s p (interp s xs ys) (xs t) ∙ vanish (e t k ∙ sym (ev-interp s xs ys d t k))) i h)

-- P4: interp finds a polynomial from its values
pub interp-ev : (s : ℕ) (xs p : Vec) → Distinct s xs → Same s p (interp s xs (λ t. ev s p (xs t)))
interp-ev s xs p d = interp-only s xs (λ t. ev s p (xs t)) p d (λ t h. refl)
