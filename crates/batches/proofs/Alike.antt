-- What refusal 8 tests of a batch: each record is alike exactly when no failed node is another, and neither counts nor stripes differ.
--   Mixed c a b other      the test of refusal 8
--   all_alike, not_alike   by whether each record is alike
-- Assumes nothing.
use mathlib.Core.Path.{◌≡◌, refl, ap}
use mathlib.Core.Bool.{Bool, true, false, not, ◌&&◌, ◌||◌}
use mathlib.Core.List.{List}
use Prim.Native.Nat.{ℕ, zero, suc, ◌<◌}
use native.Mathlib.Nat.{not-suc-le-zero}
use native.Mathlib.Omega.{arith}
use borrow.Author.Tests.{eq-eqb, not-false}
use lib.Dec.{eqb}
use Rattle.codes.proofs.Bools.{by-test, apart, both, and_left, and_right}
use Rattle.stripes.specs.Lists.{differ}
use Rattle.shares.specs.File.{below}
use Rattle.shares.proofs.Below.{below_each, below_at}
use Rattle.batches.specs.Batch.{list_of, failed_in, count_at, stripe_named, counts_in, stripes_named}
use Rattle.batches.specs.Tests.{alike}
use Rattle.batches.proofs.Fields.{every-each, every-at}

differ-none : (n : ℕ) (f : ℕ → ℕ) → ((i : ℕ) → i < n → eqb (f 0) (f i) ≡ true) → differ (list_of n f) ≡ false
unfolding differ list_of
differ-none zero f h = refl
differ-none (suc n) f h = ap not (every-each n (λ r. f (suc r)) (eqb (f 0)) (λ i l. h (suc i) (omega arith)))

same_at : (n : ℕ) (f : ℕ → ℕ) → differ (list_of n f) ≡ false → (i : ℕ) → i < n → eqb (f 0) (f i) ≡ true
unfolding differ list_of
same_at zero f e i l = absurd (not-suc-le-zero l)
same_at (suc n) f e zero l = eq-eqb (f 0) (f 0) refl
same_at (suc n) f e (suc i) l = every-at n (λ r. f (suc r)) (eqb (f 0)) (not-false _ e) i (omega arith)

module _ (d a : ℕ) (b : List ℕ) (other : Bool) where
  abbrev pub named : ℕ → Bool
  named r = eqb (failed_in b r) a

  abbrev pub Mixed : Bool
  Mixed = not (below d (λ r. eqb (failed_in b r) a)) || differ (counts_in d b) || differ (stripes_named d b) || other

  one : ℕ → Bool
  one r = eqb (count_at b 0) (count_at b r)

  two : ℕ → Bool
  two r = eqb (stripe_named b 0) (stripe_named b r)

  pub all_alike : below d (alike a b) ≡ true → Mixed ≡ other
  unfolding one two
  all_alike e =
      let h : (r : ℕ) → r < d → (named r && (one r && two r)) ≡ true = below_at d (alike a b) e in
      let f : below d (λ r. eqb (failed_in b r) a) ≡ true = below_each d named (λ r l. and_left (named r) (one r && two r) (h r l)) in
      let g : (r : ℕ) → r < d → (one r && two r) ≡ true = λ r l. and_right (named r) (one r && two r) (h r l) in
      let m : differ (counts_in d b) ≡ false = differ-none d (count_at b) (λ r l. and_left (one r) (two r) (g r l)) in
      let s : differ (stripes_named d b) ≡ false = differ-none d (stripe_named b) (λ r l. and_right (one r) (two r) (g r l)) in
      simp (f, m, s)

  pub not_alike : below d (alike a b) ≡ false → Mixed ≡ true
  unfolding one two
  not_alike e =
      by-test (below d (λ r. eqb (failed_in b r) a))
      (λ f. by-test (differ (counts_in d b)) (λ m. simp (f, m))
      (λ m. by-test (differ (stripes_named d b)) (λ s. simp (f, m, s))
      (λ s. apart (below d (alike a b))
      (below_each d (alike a b) (λ r l. both (named r) (one r && two r) (below_at d named f r l) (both (one r) (two r) (same_at d (count_at b) m r l) (same_at d (stripe_named b) s r l)))) e)))
      (λ f. simp f)
