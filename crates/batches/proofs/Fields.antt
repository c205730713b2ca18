-- Lists of the values of a function: a field of each record of a batch.
--   length-list, list_at     the length, and what stands at a place
--   listed                   the first n of a list, where each is the function's value
--   every-each, every-at     a test over the list is that test at each number, and back
--   list-same, list-tested   two functions that give the same values, told or tested, have the same list
-- Assumes nothing.
use mathlib.Core.Path.{◌≡◌, ◌∙◌, refl, sym, ap, ap₂}
use mathlib.Core.Bool.{Bool, true}
use mathlib.Core.List.{List, ◌∷◌}
use Prim.Native.Nat.{ℕ, zero, suc, ◌<◌, ◌≤◌}
use native.Mathlib.Nat.{not-suc-le-zero}
use native.Mathlib.Omega.{arith}
use borrow.Author.Tests.{eqb-true}
use lib.Dec.{eqb}
use lib.ListN.{length, get_or, take}
use lib.Seq.{ext_get_or, get_or-take, length-take-le}
use Rattle.codes.proofs.Bools.{both, and_left, and_right}
use Rattle.stripes.specs.Lists.{every}
use Rattle.shares.specs.File.{below}
use Rattle.shares.proofs.Below.{below_at}
use Rattle.batches.specs.Batch.{list_of}

pub length-list : (n : ℕ) (f : ℕ → ℕ) → length (list_of n f) ≡ n
unfolding list_of
length-list zero f = refl
length-list (suc n) f = ap suc (length-list n (λ r. f (suc r)))

pub list_at : (n : ℕ) (f : ℕ → ℕ) (i : ℕ) → i < n → get_or (list_of n f) i 0 ≡ f i
unfolding list_of
list_at zero f i h = absurd (not-suc-le-zero h)
list_at (suc n) f zero h = refl
list_at (suc n) f (suc i) h = list_at n (λ r. f (suc r)) i (omega arith)

pub listed : (n : ℕ) (f : ℕ → ℕ) (xs : List ℕ) → n ≤ length xs → ((i : ℕ) → i < n → get_or xs i 0 ≡ f i) → take n xs ≡ list_of n f
listed n f xs h each =
    let e : length (take n xs) ≡ n = length-take-le n xs h in
    ext_get_or 0 (take n xs) (list_of n f) (e ∙ sym (length-list n f))
    (λ i k. let l : i < n = omega arith in get_or-take n xs i 0 l ∙ each i l ∙ sym (list_at n f i l))

pub every-each : (n : ℕ) (f : ℕ → ℕ) (p : ℕ → Bool) → ((i : ℕ) → i < n → p (f i) ≡ true) → every p (list_of n f) ≡ true
unfolding list_of every
every-each zero f p h = refl
every-each (suc n) f p h =
    both (p (f 0)) (every p (list_of n (λ r. f (suc r)))) (h 0 (omega arith)) (every-each n (λ r. f (suc r)) p (λ i l. h (suc i) (omega arith)))

pub every-at : (n : ℕ) (f : ℕ → ℕ) (p : ℕ → Bool) → every p (list_of n f) ≡ true → (i : ℕ) → i < n → p (f i) ≡ true
unfolding list_of every
every-at zero f p e i l = absurd (not-suc-le-zero l)
every-at (suc n) f p e zero l = and_left (p (f 0)) (every p (list_of n (λ r. f (suc r)))) e
every-at (suc n) f p e (suc i) l =
    every-at n (λ r. f (suc r)) p (and_right (p (f 0)) (every p (list_of n (λ r. f (suc r)))) e) i (omega arith)

list-same : (n : ℕ) (f g : ℕ → ℕ) → ((i : ℕ) → i < n → f i ≡ g i) → list_of n f ≡ list_of n g
unfolding list_of
list-same zero f g e = refl
list-same (suc n) f g e = ap₂ ◌∷◌ (e 0 (omega arith)) (list-same n (λ r. f (suc r)) (λ r. g (suc r)) (λ i l. e (suc i) (omega arith)))

pub list-tested : (n : ℕ) (f g : ℕ → ℕ) → below n (λ r. eqb (f r) (g r)) ≡ true → list_of n f ≡ list_of n g
list-tested n f g e = list-same n f g (λ i l. eqb-true (f i) (g i) (below_at n (λ r. eqb (f r) (g r)) e i l))
