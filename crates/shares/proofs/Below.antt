-- A test at each number below a bound, as a loop goes through it.
--   below_none, below_next     no number, and one number more
--   below-stop                 the test fails at one of the numbers
--   below_each, below_at       the test at each of the numbers, and back
--   below-fewer                fewer numbers
--   below-from                 `all` over the numbers from a on, where the test holds at those below a;   below-all    over the numbers below n
-- Assumes nothing.
use mathlib.Core.Path.{◌≡◌, ◌∙◌, refl, sym, ap}
use mathlib.Core.Bool.{Bool, true, false, ◌&&◌, and-false}
use mathlib.Core.Logic.{by_cases}
use Prim.Native.Nat.{ℕ, zero, suc, ◌+◌, ◌-◌, ◌<◌, ◌≤◌}
use native.Mathlib.Nat.{not-suc-le-zero}
use native.Mathlib.Numerals.{add-one}
use native.Mathlib.Decide.{ℕ_discrete, dec_le}
use native.Mathlib.Omega.{arith}
use Rattle.std.proofs.Common.{add-zero}
use Rattle.std.specs.List.{list_all, range_with_len}
use Rattle.codes.proofs.Bools.{by-test, both, and_left, and_right}
use Rattle.shares.specs.File.{below}

pub below_none : (p : ℕ → Bool) → below 0 p ≡ true
unfolding below
below_none p = refl

pub below_next : (n : ℕ) (p : ℕ → Bool) → below n p ≡ true → p n ≡ true → below (n + 1) p ≡ true
unfolding below
below_next n p e h = rw (add-one, below) (both (below n p) (p n) e h)

pub below_each : (n : ℕ) (p : ℕ → Bool) → ((i : ℕ) → i < n → p i ≡ true) → below n p ≡ true
unfolding below
below_each zero p h = refl
below_each (suc n) p h = both (below n p) (p n) (below_each n p (λ i l. h i (omega arith))) (h n (omega arith))

pub below_at : (n : ℕ) (p : ℕ → Bool) → below n p ≡ true → (i : ℕ) → i < n → p i ≡ true
unfolding below
below_at zero p e i l = absurd (not-suc-le-zero l)
below_at (suc n) p e i l =
    by_cases (ℕ_discrete i n) (λ q. ap p q ∙ and_right (below n p) (p n) e)
    (λ q. below_at n p (and_left (below n p) (p n) e) i (omega arith))

pub below-stop : (n : ℕ) (p : ℕ → Bool) (i : ℕ) → i < n → p i ≡ false → below n p ≡ false
unfolding below
below-stop zero p i l h = absurd (not-suc-le-zero l)
below-stop (suc n) p i l h =
    by_cases (ℕ_discrete i n) (λ q. ap (λ (b : Bool). below n p && b) (ap p (sym q) ∙ h) ∙ and-false (below n p))
    (λ q. ap (λ (b : Bool). b && p n) (below-stop n p i (omega arith) h))

pub below-fewer : (m n : ℕ) (p : ℕ → Bool) → m ≤ n → below n p ≡ true → below m p ≡ true
below-fewer m n p h e = below_each m p (λ i l. below_at n p e i (omega arith))

pub below-same : (n : ℕ) (p q : ℕ → Bool) → ((i : ℕ) → i < n → p i ≡ q i) → below n p ≡ below n q
unfolding below
below-same zero p q h = refl
below-same (suc n) p q h = ap (λ (b : Bool). b && p n) (below-same n p q (λ i l. h i (omega arith))) ∙ ap (λ (b : Bool). below n q && b) (h n (omega arith))

-- `all` with the test q over the numbers from a on; p is the same test there
run : (p q : ℕ → Bool) (a n : ℕ) → below a p ≡ true → ((j : ℕ) → a ≤ j → q j ≡ p j) → list_all q (range_with_len a n) ≡ below (a + n) p
run p q a zero e same = rw add-zero (sym e)
run p q a (suc n) e same =
    let h : q a ≡ p a = same a (omega arith) in
    let m : a + 1 + n ≡ a + suc n = omega arith in
    by-test (p a)
    (λ t. ap (λ (b : Bool). b && list_all q (range_with_len (a + 1) n)) (h ∙ t)
    ∙ run p q (a + 1) n (below_next a p e t) (λ j l. same j (omega arith)) ∙ ap (λ (k : ℕ). below k p) m)
    (λ t. ap (λ (b : Bool). b && list_all q (range_with_len (a + 1) n)) (h ∙ t) ∙ sym (below-stop (a + suc n) p a (omega arith) t))

pub below-from : (p q : ℕ → Bool) (a n : ℕ) → below a p ≡ true → ((j : ℕ) → a ≤ j → q j ≡ p j) → list_all q (range_with_len a (n - a)) ≡ below n p
below-from p q a n e same =
    by_cases (dec_le a n)
    (λ l. let m : a + (n - a) ≡ n = omega arith in run p q a (n - a) e same ∙ ap (λ (k : ℕ). below k p) m)
    (λ l. let z : n - a ≡ 0 = omega arith in rw z (sym (below-fewer n a p (omega arith) e)))

-- `all` over the numbers below n
pub below-all : (p : ℕ → Bool) (n : ℕ) → list_all p (range_with_len 0 (n - 0)) ≡ below n p
below-all p n = below-from p p 0 n (below_none p) (λ j l. refl)
