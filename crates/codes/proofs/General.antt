-- FILL, once for every kind: filling a matrix with a message and reading it off are inverse, and a filled matrix has the shape that collecting asks.
-- Assumes nothing.
use mathlib.Core.Path.{◌≡◌, ◌∙◌, refl, sym, ap, ap₂, subst}
use mathlib.Core.Bool.{Bool, true, false, cond}
use mathlib.Core.Logic.{by_cases}
use Prim.Native.Nat.{ℕ, ◌+◌, ◌*◌, ◌-◌, ◌<◌, ◌≤◌}
use native.Mathlib.Nat.{add-sub_of_le}
use native.Mathlib.Decide.{dec_le, dec_lt}
use native.Mathlib.Omega.{arith}
use Rattle.algebra.specs.Symbol.{F, ◌⊕◌, 𝟘}
use Rattle.algebra.specs.Sums.{Vec, Grid, Same, SameGrid, Symmetric, ◌⊞◌}
use Rattle.algebra.specs.Collect.{Shape}
use Rattle.algebra.proofs.Ring.{add-zero}
use Rattle.algebra.proofs.Sums.{pick-lt, pick-ge}
use Rattle.codes.specs.General.{Stands, Layout, entry, filled, reading}

-- ---- the entries of a message

pub entry-within : (B : ℕ) (m : Vec) (n : ℕ) → n < B → entry B m n ≡ m n
entry-within B m n h = pick-lt n B (m n) 𝟘 h

pub entry_past : (B : ℕ) (m : Vec) (n : ℕ) → B ≤ n → entry B m n ≡ 𝟘
entry_past B m n h = pick-ge n B (m n) 𝟘 h

-- what is a symbol of the message is an entry
pub entry_of : (B : ℕ) (m : Vec) {x : F} {b : ℕ} → x ≡ m b → b < B → x ≡ entry B m b
entry_of B m {b} p h = p ∙ sym (entry-within B m b h)

-- a symbol that one of two places has
pub symbol-of : (t : Bool) (m : Vec) (a b : ℕ) → cond t (m a) (m b) ≡ m (cond t a b)
symbol-of true m a b = refl
symbol-of false m a b = refl

-- a message that is 𝟘 past its end is its own entries
pub entry-ends : (B : ℕ) (m : Vec) → ((n : ℕ) → B ≤ n → m n ≡ 𝟘) → (n : ℕ) → entry B m n ≡ m n
entry-ends B m z n = by_cases (dec_lt n B) (entry-within B m n) (λ k. entry_past B m n (omega arith) ∙ sym (z n (omega arith)))

-- only the symbols below B count
pub entry-same : (B : ℕ) {m m' : Vec} → Same B m m' → (n : ℕ) → entry B m n ≡ entry B m' n
entry-same B {m} {m'} e n =
    by_cases (dec_lt n B) (λ h. entry-within B m n h ∙ e n h ∙ sym (entry-within B m' n h))
    (λ k. entry_past B m n (omega arith) ∙ sym (entry_past B m' n (omega arith)))

-- a filled matrix is additive in the message
pub filled-add : (B : ℕ) (idx : ℕ → ℕ → ℕ) (m m' : Vec) (r j : ℕ) → filled B idx (m ⊞ m') r j ≡ filled B idx m r j ⊕ filled B idx m' r j
filled-add B idx m m' r j =
    by_cases (dec_lt (idx r j) B)
    (λ h. entry-within B (m ⊞ m') (idx r j) h ∙ ap₂ ◌⊕◌ (sym (entry-within B m (idx r j) h)) (sym (entry-within B m' (idx r j) h)))
    (λ n. let h : B ≤ idx r j = omega arith in
    entry_past B (m ⊞ m') (idx r j) h ∙ sym (ap₂ ◌⊕◌ (entry_past B m (idx r j) h) (entry_past B m' (idx r j) h) ∙ add-zero 𝟘))

-- ---- shapes

-- a grid that is equal to one of the shape has it
pub shape_same : {k α h : ℕ} {U W : Grid} → h ≤ α → SameGrid (α + h) α U W → Shape k α h W → Shape k α h U
shape_same r e S = record {
  low = λ i j a b. e i j (omega arith) (omega arith) ∙ S.low i j a b ∙ sym (e j i (omega arith) a);
  high = λ i j a b c. e i j (omega arith) c ∙ S.high i j a b c ∙ sym (e j i (omega arith) a);
  corner = λ i j a b c d. e i j (omega arith) d ∙ S.corner i j a b c d;
  under = λ i j a b. e (_ + i) j (omega arith) (omega arith) ∙ S.under i j a b ∙ sym (e (_ + j) i (omega arith) (omega arith));
  beside = λ i j a b c. e (_ + i) j (omega arith) c ∙ S.beside i j a b c;
}

module _ {k α h B : ℕ} {idx : ℕ → ℕ → ℕ} {lane row col : ℕ → ℕ} (L : Layout k α h B idx lane row col) where
  -- a symbol stands in the first k rows, and so in the first k columns
  pub within-top : (i j : ℕ) → i < k → i < α → j < α → idx i j < B
  within-top i j a b c =
      by_cases (dec_le i j) (λ x. (L.upper i j x a c).within)
      (λ n. omega (arith, L.top i j b c, (L.upper j i (omega arith) (omega arith) b).within))

  -- ---- FILL: the matrix of a message, and the message of a matrix

  pub filled-symmetric : (m : Vec) → Symmetric α (filled B idx m)
  filled-symmetric m i j a b = ap (entry B m) (L.top i j a b)

  pub filled-shape : (m : Vec) → Shape k α h (filled B idx m)
  filled-shape m = record {
    low = λ i j a b. filled-symmetric m i j a (omega (arith, L.room));
    high = λ i j a b c. filled-symmetric m i j a c;
    corner = λ i j a b c d. entry_past B m (idx i j) (L.corner i j a b c d);
    under = λ i j a b. ap (entry B m) (L.under i j a b);
    beside = λ i j a b c. entry_past B m (idx (α + i) j) (L.beside i j a b c);
  }

  pub read-filled : (m : Vec) → Same B (reading α lane row col (filled B idx m)) m
  read-filled m b h = ap (entry B m) (L.back b h) ∙ entry-within B m b h

  -- what is read at the place of a symbol
  reading-at : (W : Grid) (b q i j : ℕ) → Stands B lane row col b q i j → entry B (reading α lane row col W) b ≡ W (q * α + i) j
  reading-at W b q i j s =
      entry-within B (reading α lane row col W) b s.within
      ∙ ap₂ W (ap₂ (λ (x y : ℕ). x * α + y) s.in_lane s.in_row) s.in_col

  module _ (W : Grid) (S : Shape k α h W) (Y : Symmetric α W) where
    top_up : (i j : ℕ) → i ≤ j → j < α → filled B idx (reading α lane row col W) i j ≡ W i j
    top_up i j a b =
        by_cases (dec_lt i k) (λ c. reading-at W (idx i j) 0 i j (L.upper i j a c b) ∙ ap (λ (r : ℕ). W r j) (omega arith))
        (λ n. entry_past B (reading α lane row col W) (idx i j) (L.corner i j (omega arith) (omega arith) (omega arith) b)
        ∙ sym (S.corner i j (omega arith) (omega arith) (omega arith) b))

    under_up : (i j : ℕ) → i ≤ j → j < h → filled B idx (reading α lane row col W) (α + i) j ≡ W (α + i) j
    under_up i j a b = reading-at W (idx (α + i) j) 1 i j (L.lower i j a b) ∙ ap (λ (r : ℕ). W r j) (omega arith)

    top-all : (i j : ℕ) → i < α → j < α → filled B idx (reading α lane row col W) i j ≡ W i j
    top-all i j a b =
        by_cases (dec_le i j) (λ c. top_up i j c b)
        (λ n. filled-symmetric (reading α lane row col W) i j a b ∙ top_up j i (omega arith) a ∙ Y j i b a)

    under_all : (i j : ℕ) → i < h → j < α → filled B idx (reading α lane row col W) (α + i) j ≡ W (α + i) j
    under_all i j a b =
        by_cases (dec_lt j h)
        (λ c. by_cases (dec_le i j) (λ d. under_up i j d c)
        (λ n. ap (entry B (reading α lane row col W)) (L.under i j a c) ∙ under_up j i (omega arith) a ∙ S.under j i c a))
        (λ n. entry_past B (reading α lane row col W) (idx (α + i) j) (L.beside i j a (omega arith) b) ∙ sym (S.beside i j a (omega arith) b))

    pub filled-read : SameGrid (α + h) α (filled B idx (reading α lane row col W)) W
    filled-read r j a b =
        by_cases (dec_lt r α) (λ c. top-all r j c b)
        (λ n. let m : α ≤ r = omega arith in
        subst (λ (x : ℕ). filled B idx (reading α lane row col W) x j ≡ W x j) (add-sub_of_le m) (under_all (r - α) j (omega arith) b))
