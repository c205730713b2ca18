-- The first place at which a test holds: what one turn of a search does, and what the place says of those before it.
-- Assumes nothing.
use mathlib.Core.Path.{◌≡◌, ◌∙◌, refl, sym, ap}
use mathlib.Core.Bool.{Bool, true, false}
use Prim.Native.Nat.{ℕ, zero, suc, ◌+◌, ◌-◌, ◌<◌, ◌≤◌}
use native.Mathlib.Numerals.{add-one}
use native.Mathlib.Omega.{arith}
use lib.Dec.{eqb}
use borrow.Author.Tests.{eqb-true, eqb-false}
use Rattle.std.proofs.lemmas.Bool.Decides.{nat_tests}
use Rattle.codes.specs.First.{first}
use Rattle.codes.proofs.Bools.{by-test}

module _ (p : ℕ → Bool) where
  out : (i : ℕ) → first 0 i p ≡ i
  unfolding first
  out i = refl

  skip : (m i : ℕ) → p i ≡ false → first (suc m) i p ≡ first m (i + 1) p
  unfolding first
  skip m i e = rw (add-one, first, e)

  stop : (m i : ℕ) → p i ≡ true → first (suc m) i p ≡ i
  unfolding first
  stop m i e = rw (first, e)

  -- of the places below n, those from i on are left to search
  pub first_more : (n i : ℕ) → i < n → p i ≡ false → first (n - i) i p ≡ first (n - (i + 1)) (i + 1) p
  first_more n i h e = ap (λ (m : ℕ). first m i p) (omega arith) ∙ skip (n - (i + 1)) i e

  pub first-here : (n i : ℕ) → i < n → p i ≡ true → first (n - i) i p ≡ i
  first-here n i h e = ap (λ (m : ℕ). first m i p) (omega arith) ∙ stop (n - (i + 1)) i e

  pub first-none : (n i : ℕ) → n ≤ i → first (n - i) i p ≡ i
  first-none n i h = ap (λ (m : ℕ). first m i p) (omega arith) ∙ out i

  -- the test holds at the first place, and at none before it
  pub first-from : (n i : ℕ) → i ≤ first n i p
  first-from zero i = omega (arith, out i)
  first-from (suc n) i = by-test (p i) (λ e. omega (arith, stop n i e)) (λ e. omega (arith, skip n i e, first-from n (i + 1)))

  pub first_to : (n i : ℕ) → first n i p ≤ i + n
  first_to zero i = omega (arith, out i)
  first_to (suc n) i = by-test (p i) (λ e. omega (arith, stop n i e)) (λ e. omega (arith, skip n i e, first_to n (i + 1)))

  pub first-before : (n i q : ℕ) → i ≤ q → q < first n i p → p q ≡ false
  first-before zero i q l f = absurd (omega (arith, out i))
  first-before (suc n) i q l f =
      by-test (p i) (λ e. absurd (omega (arith, stop n i e)))
      (λ e. by-test (eqb i q) (λ x. ap p (sym (eqb-true i q x)) ∙ e)
      (λ x. first-before n (i + 1) q (omega (arith, eqb-false i q x)) (omega (arith, skip n i e))))

  pub first-at : (n i : ℕ) → first n i p < i + n → p (first n i p) ≡ true
  first-at zero i h = absurd (omega (arith, out i))
  first-at (suc n) i h =
      by-test (p i) (λ e. ap p (stop n i e) ∙ e)
      (λ e. ap p (skip n i e) ∙ first-at n (i + 1) (omega (arith, skip n i e)))

-- one turn of a search and its end, with what its tests mean
pub ruleset searches = (first_more, first-here, first-none, nat_tests)
