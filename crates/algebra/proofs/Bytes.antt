-- The edge between bytes and symbols: what lists, stores and accumulators of code are as vectors and sums.
use mathlib.Core.Path.{◌≡◌, ◌∙◌, refl, sym, ap, ap₂}
use mathlib.Core.Logic.{◌≢◌}
use mathlib.Core.List.{List, ◌∷◌}
use Prim.Native.Nat.{ℕ, zero, suc, ◌+◌, ◌<◌, ◌≤◌}
use native.Mathlib.Nat.{not-suc-le-zero, le_of_suc-le-suc}
use native.Mathlib.Numerals.{add-one}
use native.Mathlib.Omega.{arith}
use lib.Bits.{bit_xor}
use lib.ListN.{length, get_or, set}
use lib.Seq.{ext_get_or, get_or-set_same, get_or-set_other}
use Rattle.field.specs.Field.{mul, quotient}
use Rattle.algebra.specs.Symbol.{F, symbol, ◌⊕◌, ◌⊗◌, 𝟘, inv}
use Rattle.algebra.specs.Sums.{Vec, Same, sum, dot}
use Rattle.algebra.specs.Poly.{tail}
use Rattle.algebra.specs.Levels.{ForwardTo, BackwardTo}
use Rattle.algebra.specs.Bytes.{at, table}
use Rattle.algebra.proofs.Ring.{symbol-val, symbol-add, symbol-mul, symbol-over, val-add, mul_val}
use Rattle.algebra.proofs.Levels.{forward-store, backward-store}

-- ---- tables

pub table-length : (n : ℕ) (f : Vec) → length (table n f) ≡ n
unfolding table
table-length zero f = refl
table-length (suc n) f = ap suc (table-length n (tail f))

pub table_at : (n : ℕ) (f : Vec) (i : ℕ) → i < n → get_or (table n f) i 0 ≡ (f i).val
unfolding table
table_at zero f i h = absurd (not-suc-le-zero h)
table_at (suc n) f zero h = refl
table_at (suc n) f (suc i) h = table_at n (tail f) i (le_of_suc-le-suc h)

pub table_same : (n : ℕ) {f g : Vec} → Same n f g → table n f ≡ table n g
unfolding table
table_same zero e = refl
table_same (suc n) e = ap₂ (λ (a : F) (l : List ℕ). a.val ∷ l) (e 0 (omega arith)) (table_same n (λ i h. e (suc i) (omega arith)))

-- a list is the table that it agrees with at each place
pub table-ext : (n : ℕ) (f : Vec) (l : List ℕ) → length l ≡ n → ((i : ℕ) → i < n → get_or l i 0 ≡ (f i).val) → l ≡ table n f
table-ext n f l e h =
    ext_get_or 0 l (table n f) (e ∙ sym (table-length n f)) (λ i k. h i (omega arith) ∙ sym (table_at n f i (omega arith)))

pub at_table : (n : ℕ) (f : Vec) → Same n (at (table n f)) f
at_table n f i h = ap symbol (table_at n f i h) ∙ symbol-val (f i)

-- ---- stores

pub at_set : (l : List ℕ) (i v : ℕ) → i < length l → at (set l i v) i ≡ symbol v
at_set l i v h = ap symbol (get_or-set_same l i v 0 h)

pub at_set_other : (l : List ℕ) (i v e : ℕ) → e ≢ i → at (set l i v) e ≡ at l e
at_set_other l i v e n = ap symbol (get_or-set_other l i e v 0 n)

-- ---- sums in an accumulator

pub sum-none : (f : Vec) → 0 ≡ (sum 0 f).val
unfolding sum 𝟘
sum-none f = refl

pub sum-next : {acc : ℕ} (n : ℕ) (f : Vec) → acc ≡ (sum n f).val → bit_xor acc (f n).val ≡ (sum (n + 1) f).val
unfolding sum
sum-next n f e = rw add-one (ap (λ (a : ℕ). bit_xor a (f n).val) e ∙ sym (val-add (sum n f) (f n)))

-- a product of bytes added, in a loop that computes a dot product
pub dot-next : {acc : ℕ} (n : ℕ) (u v : Vec) (a b : ℕ) → u n ≡ symbol a → v n ≡ symbol b
    → acc ≡ (dot n u v).val → bit_xor acc (mul a b) ≡ (dot (n + 1) u v).val
dot-next {acc} n u v a b p q e =
    ap (bit_xor acc) (mul_val a b ∙ ap₂ (λ (x y : F). (x ⊗ y).val) (sym p) (sym q)) ∙ sum-next n (λ i. u i ⊗ v i) e

-- ---- interpolation in place, over an array of bytes: a store of each pass. The points xs i and xs t are the bytes m and n.

module _ (xs ys : Vec) (t : ℕ) (l : List ℕ) {s i : ℕ} where
  pub forward-put : (m n : ℕ) → ForwardTo s t i xs ys (at l) → t < i → i < s → s ≤ length l → xs i ≡ symbol m → xs t ≡ symbol n
      → ForwardTo s t (i + 1) xs ys (at (set l i (quotient (bit_xor (get_or l i 0) (get_or l t 0)) (bit_xor m n))))
  forward-put m n f h k w p q =
      forward-store xs ys t f h k _
      (at_set l i _ (omega arith) ∙ symbol-over _ _
      ∙ ap₂ (λ (x y : F). x ⊗ inv y) (symbol-add _ _) (symbol-add m n ∙ sym (ap₂ ◌⊕◌ p q)))
      (at_set_other l i _)

  pub backward-put : (n : ℕ) → BackwardTo s t i xs ys (at l) → t ≤ i → i + 1 < s → s ≤ length l → xs t ≡ symbol n
      → BackwardTo s t (i + 1) xs ys (at (set l i (bit_xor (get_or l i 0) (mul n (get_or l (i + 1) 0)))))
  backward-put n f h k w q =
      backward-store xs ys t f h k _
      (at_set l i _ (omega arith) ∙ symbol-add _ _ ∙ ap (λ (x : F). at l i ⊕ x) (symbol-mul _ _ ∙ ap (λ (x : F). x ⊗ at l (i + 1)) (sym q)))
      (at_set_other l i _)
