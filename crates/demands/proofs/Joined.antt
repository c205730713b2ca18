-- Runs of one length, end to end: each is found again where it stands.
--   joined-long       how long they are together
--   joined-part       the run r
--   joined-byte       a byte of the run r
--   joined_same       the same runs
--   number_same       numbers whose bytes are the same
--   list-long, list_at, list-of     a list by its entries
-- Assumes nothing.
use mathlib.Core.Path.{◌≡◌, ◌∙◌, refl, sym, ap, ap₂}
use mathlib.Core.List.{List, ◌++◌}
use Prim.Native.Nat.{ℕ, zero, suc, ◌+◌, ◌*◌, ◌<◌}
use native.Mathlib.Nat.{suc-mul, not-suc-le-zero, le_of_suc-le-suc}
use native.Mathlib.Omega.{arith}
use lib.ListN.{length, get_or, take, drop, length-append}
use lib.Seq.{take_at, drop_at, drop-drop, get_or-take, get_or-drop, ext_get_or}
use Rattle.records.specs.Numbers.{number_at}
use Rattle.batches.specs.Batch.{list_of}
use Rattle.demands.specs.History.{joined}

module _ (g : ℕ → List ℕ) (L : ℕ) where
  pub joined-long : (i n : ℕ) → ((r : ℕ) → r < n → length (g (i + r)) ≡ L) → length (joined g i n) ≡ n * L
  unfolding joined
  joined-long i zero e = omega arith
  joined-long i (suc n) e =
      let h : length (g i) ≡ L = ap (λ (k : ℕ). length (g k)) (omega arith) ∙ e 0 (omega arith) in
      let k : length (joined g (suc i) n) ≡ n * L = joined-long (suc i) n (λ r l. ap (λ (k : ℕ). length (g k)) (omega arith) ∙ e (suc r) (omega arith)) in
      omega (arith, length-append (g i) (joined g (suc i) n), suc-mul n L, h, k)

  joined-drop : (i n r : ℕ) → ((q : ℕ) → q < n → length (g (i + q)) ≡ L) → r < n → take L (drop (r * L) (joined g i n)) ≡ g (i + r)
  unfolding joined
  joined-drop i zero r e h = absurd (not-suc-le-zero h)
  joined-drop i (suc n) zero e h =
      let f : 0 * L ≡ 0 = omega arith in
      let k : i ≡ i + 0 = omega arith in
      ap (λ (a : ℕ). take L (drop a (g i ++ joined g (suc i) n))) f
      ∙ take_at (g i) (joined g (suc i) n) L (ap (λ (a : ℕ). length (g a)) k ∙ e 0 (omega arith)) ∙ ap g k
  joined-drop i (suc n) (suc r) e h =
      let f : suc r * L ≡ L + r * L = omega (arith, suc-mul r L) in
      let k : suc i + r ≡ i + suc r = omega arith in
      let j : length (g i) ≡ L = ap (λ (a : ℕ). length (g a)) (omega arith) ∙ e 0 (omega arith) in
      ap (take L)
      (ap (λ (a : ℕ). drop a (g i ++ joined g (suc i) n)) f ∙ sym (drop-drop (r * L) L (g i ++ joined g (suc i) n))
      ∙ ap (drop (r * L)) (drop_at (g i) (joined g (suc i) n) L j))
      ∙ joined-drop (suc i) n r (λ q l. ap (λ (a : ℕ). length (g a)) (omega arith) ∙ e (suc q) (omega arith)) (le_of_suc-le-suc h) ∙ ap g k

  module _ (n : ℕ) (each : (r : ℕ) → r < n → length (g r) ≡ L) where
    shifted : (r : ℕ) → r < n → length (g (0 + r)) ≡ L
    shifted r h = ap (λ (a : ℕ). length (g a)) (omega arith) ∙ each r h

    pub joined-whole : length (joined g 0 n) ≡ n * L
    joined-whole = joined-long 0 n shifted

    pub joined-part : (r : ℕ) → r < n → take L (drop (r * L) (joined g 0 n)) ≡ g r
    joined-part r h = let e : 0 + r ≡ r = omega arith in joined-drop 0 n r shifted h ∙ ap g e

    pub joined-byte : (r j : ℕ) → r < n → j < L → get_or (joined g 0 n) (r * L + j) 0 ≡ get_or (g r) j 0
    joined-byte r j h l =
        sym (get_or-take L (drop (r * L) (joined g 0 n)) j 0 l ∙ get_or-drop (r * L) (joined g 0 n) j 0) ∙ ap (λ (a : List ℕ). get_or a j 0) (joined-part r h)

pub joined_same : (g h : ℕ → List ℕ) (i n : ℕ) → ((r : ℕ) → r < i + n → g r ≡ h r) → joined g i n ≡ joined h i n
unfolding joined
joined_same g h i zero e = refl
joined_same g h i (suc n) e =
    ap₂ (λ (a b : List ℕ). a ++ b) (e i (omega arith)) (joined_same g h (suc i) n (λ r l. e r (omega arith)))

pub number_same : (width : ℕ) (s u : List ℕ) (a b : ℕ) → ((k : ℕ) → k < width → get_or s (a + k) 0 ≡ get_or u (b + k) 0) → number_at width s a ≡ number_at width u b
unfolding number_at
number_same zero s u a b e = refl
number_same (suc width) s u a b e =
    ap₂ (λ (x y : ℕ). x * 256 + y) (number_same width s u a b (λ k h. e k (omega arith))) (e width (omega arith))

-- ---- a list by its entries

pub list-long : (n : ℕ) (f : ℕ → ℕ) → length (list_of n f) ≡ n
unfolding list_of
list-long zero f = refl
list-long (suc n) f = ap suc (list-long n (λ r. f (suc r)))

pub list_at : (n : ℕ) (f : ℕ → ℕ) (r : ℕ) → r < n → get_or (list_of n f) r 0 ≡ f r
unfolding list_of
list_at zero f r h = absurd (not-suc-le-zero h)
list_at (suc n) f zero h = refl
list_at (suc n) f (suc r) h = list_at n (λ q. f (suc q)) r (le_of_suc-le-suc h)

pub list-of : (n : ℕ) (f : ℕ → ℕ) (l : List ℕ) → length l ≡ n → ((r : ℕ) → r < n → f r ≡ get_or l r 0) → list_of n f ≡ l
list-of n f l e h =
    ext_get_or 0 (list_of n f) l (list-long n f ∙ sym e)
    (λ r k. let b : r < n = omega (arith, list-long n f) in list_at n f r b ∙ h r b)
