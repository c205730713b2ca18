-- Squares of bytes as grids: one turn of a loop that adds a product, fills a row or fills a square row by row.
--   symbol-zero                 the byte 0 is zero
--   dot-start, dot-step         a sum of products in an accumulator
--   same_store                  a row filled from the front, one store a turn
--   holds-store                 a square filled row by row;   holds-zero    a square of zeros
-- Assumes nothing.
use mathlib.Core.Path.{◌≡◌, ◌∙◌, refl, ap, ap₂}
use mathlib.Core.List.{List, []}
use Prim.Native.Nat.{ℕ, ◌+◌, ◌<◌}
use native.Mathlib.Numerals.{add-one}
use native.Mathlib.Omega.{arith}
use borrow.Author.Count.{below_more}
use lib.Bits.{bit_xor}
use lib.ListN.{length, set, replicate, get_or-replicate}
use lib.Seq.{get_or-set_same, get_or-set_other}
use Rattle.field.specs.Field.{mul}
use Rattle.algebra.specs.Symbol.{symbol, ◌⊕◌, ◌⊗◌, 𝟘}
use Rattle.algebra.specs.Sums.{Vec, Grid, Same, sum, dot}
use Rattle.algebra.specs.Bytes.{at}
use Rattle.algebra.proofs.Ring.{F-path, symbol-add, symbol-mul}
use Rattle.algebra.proofs.Bytes.{at_set, at_set_other}
use Rattle.collects.specs.Squares.{cells, Holds}

pub symbol-zero : symbol 0 ≡ 𝟘
unfolding symbol 𝟘
symbol-zero = F-path refl

-- ---- sums

pub dot-start : (u v : Vec) → symbol 0 ≡ dot 0 u v
unfolding sum
dot-start u v = symbol-zero

pub dot-step : (i : ℕ) (u v : Vec) (s a b : ℕ) → symbol s ≡ dot i u v → symbol a ≡ u i → symbol b ≡ v i
    → symbol (bit_xor s (mul a b)) ≡ dot (i + 1) u v
unfolding sum
dot-step i u v s a b e f g = rw add-one (symbol-add s (mul a b) ∙ ap₂ ◌⊕◌ e (symbol-mul a b ∙ ap₂ ◌⊗◌ f g))

-- ---- rows

module _ {n : ℕ} {f : Vec} (l : List ℕ) (v : ℕ) where
  pub same_store : n < length l → Same n (at l) f → symbol v ≡ f n → Same (n + 1) (at (set l n v)) f
  same_store h e p = below_more _ _ (λ i k. at_set_other l n v i (λ q. omega arith) ∙ e i k) (at_set l n v h ∙ p)

-- ---- squares

pub holds-zero : (n : ℕ) (i : ℕ) → i < n → (m : ℕ) → (j : ℕ) → j < m → cells (replicate n (replicate m 0)) i j ≡ 𝟘
holds-zero n i h m j k =
    ap (λ (l : List ℕ). at l j) (get_or-replicate n i (replicate m 0) [] h) ∙ ap symbol (get_or-replicate m j 0 0 k) ∙ symbol-zero

module _ {n : ℕ} {G : Grid} where
  pub holds-store : {m : ℕ} (g : List (List ℕ)) (r : List ℕ) → m < length g → Holds m n g G → Same n (at r) (G m) → Holds (m + 1) n (set g m r) G
  holds-store {m} g r h e p =
      below_more (λ i. Same n (cells (set g m r) i) (G i)) m
      (λ i k j l. ap (λ (x : List ℕ). at x j) (get_or-set_other g m i r [] (λ q. omega arith)) ∙ e i k j l)
      (λ j l. ap (λ (x : List ℕ). at x j) (get_or-set_same g m r [] h) ∙ p j l)
