-- GRID, UNI and ONE: of the grids of the shape exactly one gives any k shares.
use mathlib.Core.Path.{◌≡◌, ◌∙◌, refl, sym, ap, ap₂}
use mathlib.Core.Logic.{by_cases}
use Prim.Native.Nat.{ℕ, ◌+◌, ◌-◌, ◌<◌, ◌≤◌}
use native.Mathlib.Nat.{add-sub_of_le}
use native.Mathlib.Decide.{dec_lt}
use native.Mathlib.Omega.{arith}
use Rattle.algebra.specs.Symbol.{F, ◌⊕◌, ◌⊗◌, 𝟘}
use Rattle.algebra.specs.Sums.{Vec, Grid, Same, SameGrid, ◌⊞◌, sum, dot, left}
use Rattle.algebra.specs.Hollow.{core₁, core₂}
use Rattle.algebra.specs.Collect.{Shape, Gives, Rows, span, far, mid, col, known, rest, grid}
use Rattle.algebra.proofs.Ring.{ring, equal, vanish, add_twice, add-zero, add_none, mul-none, mul_assoc}
use Rattle.algebra.proofs.Sums.{pick-lt, pick-ge, sum_same, sum-zero, sum-split, sum-mul, dot-same, dot-add}
use Rattle.algebra.proofs.Hollow.{core-symmetric, core-solves, core-only}

-- ---- parts of a sum

pub sum-span : (a b : ℕ) (f : Vec) → a ≤ b → sum b f ≡ sum a f ⊕ span a b f
sum-span a b f h = ap (λ (n : ℕ). sum n f) (sym (add-sub_of_le h)) ∙ sum-split a (b - a) f

pub span_same : (a b : ℕ) {f g : Vec} → ((i : ℕ) → a ≤ i → i < b → f i ≡ g i) → span a b f ≡ span a b g
span_same a b e = sum_same (b - a) (λ i h. e (a + i) (omega arith) (omega arith))

pub span-zero : (a b : ℕ) {f : Vec} → ((i : ℕ) → a ≤ i → i < b → f i ≡ 𝟘) → span a b f ≡ 𝟘
span-zero a b e = sum-zero (b - a) (λ i h. e (a + i) (omega arith) (omega arith))

-- the difference of two grids of the shape has it
pub shape-add : {k α h : ℕ} {U W : Grid} → Shape k α h U → Shape k α h W → Shape k α h (λ i. U i ⊞ W i)
shape-add u w = record {
  low = λ i j a b. ap₂ ◌⊕◌ (u.low i j a b) (w.low i j a b);
  high = λ i j a b c. ap₂ ◌⊕◌ (u.high i j a b c) (w.high i j a b c);
  corner = λ i j a b c d. ap₂ ◌⊕◌ (u.corner i j a b c d) (w.corner i j a b c d) ∙ add-zero 𝟘;
  under = λ i j a b. ap₂ ◌⊕◌ (u.under i j a b) (w.under i j a b);
  beside = λ i j a b c. ap₂ ◌⊕◌ (u.beside i j a b c) (w.beside i j a b c) ∙ add-zero 𝟘;
}

-- a share in two parts, where the last h entries of the row are c times its first
pub left-scaled : (α h : ℕ) (f : Vec) (c : F) → ((i : ℕ) → i < h → f (α + i) ≡ c ⊗ f i) → (W : Grid) (j : ℕ)
    → left (α + h) f W j ≡ left α f W j ⊕ c ⊗ left h f (λ i. W (α + i)) j
left-scaled α h f c e W j =
    sum-split α h (λ r. f r ⊗ W r j)
    ∙ ap (λ (x : F). left α f W j ⊕ x)
    (sum_same h (λ i a. ap (λ (x : F). x ⊗ W (α + i) j) (e i a) ∙ mul_assoc c (f i) (W (α + i) j)) ∙ sum-mul h c (λ i. f i ⊗ W (α + i) j))

module _ {k α h : ℕ} {p : Grid} {κ : Vec → Vec} {without : ℕ → Vec → Vec} {l : Vec} (R : Rows k α h p κ without l) where
  -- a share's symbol in its three parts, for a column from h on and for one below h
  split-high : (W : Grid) (t j : ℕ) → h ≤ j → j < α → ((i : ℕ) → i < h → W (α + i) j ≡ 𝟘)
      → left (α + h) (p t) W j ≡ dot k (p t) (λ i. W i j) ⊕ span k α (λ i. p t i ⊗ W i j)
  split-high W t j a b z =
      sum-split α h (λ r. p t r ⊗ W r j)
      ∙ add_none _ (sum-zero h (λ i c. mul-none (p t (α + i)) (z i c))) ∙ sum-span k α (λ r. p t r ⊗ W r j) (R.sizes.wide (omega arith))

  split-low : (W : Grid) (t j : ℕ) → t < k
      → left (α + h) (p t) W j ≡ left h (p t) W j ⊕ l t ⊗ left h (p t) (λ i. W (α + i)) j ⊕ span h α (λ i. p t i ⊗ W i j)
  split-low W t j a =
      left-scaled α h (p t) (l t) (λ i c. R.scaled t i a c) W j
      ∙ ap (λ (x : F). x ⊕ l t ⊗ left h (p t) (λ i. W (α + i)) j) (sum-span h α (λ r. p t r ⊗ W r j) R.sizes.room) ∙ simp ring

  h≤k : h ≤ k
  h≤k = by_cases (dec_lt 0 h) (λ a. omega (arith, R.sizes.core a)) (λ n. omega arith)

  -- ---- UNI: a grid of the shape that gives 𝟘 is 𝟘, column by column

  module _ {W : Grid} (S : Shape k α h W) (Z : (t j : ℕ) → t < k → j < α → left (α + h) (p t) W j ≡ 𝟘) where
    -- a column from h on, whose entries from row k on are 𝟘
    zero-col : (j : ℕ) → h ≤ j → j < α → ((i : ℕ) → k ≤ i → i < α → W i j ≡ 𝟘) → Same k (λ i. W i j) (λ i. 𝟘)
    zero-col j a b z =
        R.frame.only (λ i. W i j) (λ t c. sym (add_none _ (span-zero k α (λ i d e. mul-none (p t i) (z i d e))))
        ∙ sym (split-high W t j a b (λ i d. S.beside i j d a b)) ∙ Z t j c b)

    -- from k on
    zero-far : (i j : ℕ) → i < k → k ≤ j → j < α → W i j ≡ 𝟘
    zero-far i j a b c = zero-col j (omega (arith, h≤k)) c (λ r d e. S.corner r j d e b c) i a

    -- from h on
    zero_high : (i j : ℕ) → i < α → h ≤ j → j < α → W i j ≡ 𝟘
    zero_high i j a b c =
        by_cases (dec_lt j k)
        (λ d. let z : (r : ℕ) → k ≤ r → r < α → W r j ≡ 𝟘 = λ r e f. sym (S.high j r c e f) ∙ zero-far j r d e f in
        by_cases (dec_lt i k) (zero-col j b c z i) (λ n. z i (omega arith) a))
        (λ m. by_cases (dec_lt i k) (λ d. zero-far i j d (omega arith) c) (λ n. S.corner i j (omega arith) a (omega arith) c))

    zero-core : (i j : ℕ) → i < h → j < h → (W i j ≡ 𝟘) × (W (α + i) j ≡ 𝟘)
    zero-core i j a b =
        core-only R.frames R.apart W (λ i. W (α + i)) (λ i j c d. S.low i j (omega (arith, R.sizes.room)) d) (λ i j c d. S.under i j c d)
        (λ t c j d. sym (add_none _ (span-zero h α (λ i e f. mul-none (p t i) (side i j e f d))))
        ∙ sym (split-low W t j (omega (arith, R.sizes.core (omega arith)))) ∙ Z t j (omega (arith, R.sizes.core (omega arith))) (omega (arith, R.sizes.room))) i j a b
      where
        side : (i j : ℕ) → h ≤ i → i < α → j < h → W i j ≡ 𝟘
        side i j a b c = S.low i j b c ∙ zero_high j i (omega (arith, R.sizes.room)) a b

    pub zero-top : (i j : ℕ) → i < α → j < α → W i j ≡ 𝟘
    zero-top i j a b =
        by_cases (dec_lt j h)
        (λ c. by_cases (dec_lt i h) (λ d. (zero-core i j d c).0) (λ n. S.low i j a c ∙ zero_high j i b (omega arith) a))
        (λ n. zero_high i j a (omega arith) b)

    pub zero-under : (i j : ℕ) → i < h → j < α → W (α + i) j ≡ 𝟘
    zero-under i j a b = by_cases (dec_lt j h) (λ c. (zero-core i j a c).1) (λ n. S.beside i j a (omega arith) b)

    pub zero-all : (r j : ℕ) → r < α + h → j < α → W r j ≡ 𝟘
    zero-all r j a b =
        by_cases (dec_lt r α) (λ c. zero-top r j c b)
        (λ n. let m : α ≤ r = omega arith in ap (λ (x : ℕ). W x j) (sym (add-sub_of_le m)) ∙ zero-under (r - α) j (omega arith) b)

  -- UNI: two grids of the shape that give the same k shares are the same
  pub grid-only : (C U W : Grid) → Shape k α h U → Shape k α h W → Gives k α h p C U → Gives k α h p C W → SameGrid (α + h) α U W
  grid-only C U W u w d e r j a b =
      equal (zero-all {W = λ i. U i ⊞ W i} (shape-add u w)
      (λ t j x y. dot-add (α + h) (p t) (λ i. U i j) (λ i. W i j) ∙ vanish (d t j x y ∙ sym (e t j x y))) r j a b)

  -- ---- GRID: the entries of the grid, part by part; then its shape and its shares

  module _ (C : Grid) where
    abbrev W : Grid
    W = grid k α h p κ without l C

    abbrev cols : Grid
    cols = col k α h p κ without l C

    abbrev left_over : Grid
    left_over = rest k α h p κ without l C

    at-core : (r j : ℕ) → r < h → j < h → W r j ≡ core₁ h p without l left_over r j
    unfolding grid
    at-core r j a b = pick-lt j h _ _ b ∙ pick-lt r h _ _ a

    at_side : (r j : ℕ) → h ≤ r → r < α → j < h → W r j ≡ cols r j
    unfolding grid
    at_side r j a b c = pick-lt j h _ _ c ∙ pick-ge r h _ _ a ∙ pick-lt r α _ _ b

    at_under : (i j : ℕ) → j < h → W (α + i) j ≡ core₂ h p without l left_over i j
    unfolding grid
    at_under i j a =
        pick-lt j h _ _ a ∙ pick-ge (α + i) h _ _ (omega (arith, R.sizes.room)) ∙ pick-ge (α + i) α _ _ (omega arith)
        ∙ ap (λ (x : ℕ). core₂ h p without l left_over x j) (omega arith)

    at_top : (r j : ℕ) → r < k → h ≤ j → W r j ≡ cols j r
    unfolding grid
    at_top r j a b = pick-ge j h _ _ b ∙ pick-lt r k _ _ a

    at-down : (r j : ℕ) → k ≤ r → r < α → h ≤ j → j < k → W r j ≡ κ (λ t. C t r) j
    unfolding grid far
    at-down r j a b c d = pick-ge j h _ _ c ∙ pick-ge r k _ _ a ∙ pick-lt r α _ _ b ∙ pick-lt j k _ _ d

    at-corner : (r j : ℕ) → k ≤ r → r < α → k ≤ j → W r j ≡ 𝟘
    unfolding grid
    at-corner r j a b c = pick-ge j h _ _ (omega (arith, h≤k)) ∙ pick-ge r k _ _ a ∙ pick-lt r α _ _ b ∙ pick-ge j k _ _ c

    at-beside : (i j : ℕ) → h ≤ j → j < α → W (α + i) j ≡ 𝟘
    unfolding grid
    at-beside i j a b = pick-ge j h _ _ a ∙ pick-ge (α + i) k _ _ (omega (arith, R.sizes.wide (omega arith))) ∙ pick-ge (α + i) α _ _ (omega arith)

    low_same : (i j : ℕ) → i < α → j < h → W i j ≡ W j i
    low_same i j a b =
        by_cases (dec_lt i h)
        (λ c. at-core i j c b ∙ (core-symmetric R.frames R.apart left_over).0 i j c b ∙ sym (at-core j i b c))
        (λ n. at_side i j (omega arith) a b ∙ sym (at_top j i (omega (arith, h≤k)) (omega arith)))

    high_same : (i j : ℕ) → i < α → k ≤ j → j < α → W i j ≡ W j i
    unfolding col far
    high_same i j a b c =
        by_cases (dec_lt i h) (λ d. sym (low_same j i c d))
        (λ n. by_cases (dec_lt i k)
        (λ d. at_top i j d (omega (arith, h≤k)) ∙ pick-ge j k _ _ b ∙ sym (at-down j i b c (omega arith) d))
        (λ m. at-corner i j (omega arith) a b ∙ sym (at-corner j i b c (omega arith))))

    -- GRID: the grid has the shape
    pub grid-shape : Shape k α h W
    grid-shape = record {
      low = low_same;
      high = high_same;
      corner = λ i j a b c d. at-corner i j a b c;
      under = λ i j a b. at_under i j b ∙ (core-symmetric R.frames R.apart left_over).1 i j a b ∙ sym (at_under j i a);
      beside = λ i j a b c. at-beside i j b c;
    }

    -- GRID: the grid gives the shares
    pub grid-solves : Gives k α h p C W
    unfolding col mid far rest known
    grid-solves t j a b = by_cases (dec_lt j h) low (λ n. by_cases (dec_lt j k) (mid-gives (omega arith)) (λ m. far-gives (omega arith)))
      where
        low : j < h → left (α + h) (p t) W j ≡ C t j
        low c =
            split-low W t j a
            ∙ ap₂ ◌⊕◌
            (ap₂ (λ (x y : F). x ⊕ l t ⊗ y) (dot-same h (λ i d. refl) (λ i d. at-core i j d c)) (dot-same h (λ i d. refl) (λ i d. at_under i j c))
            ∙ core-solves R.frames R.apart left_over t (omega (arith, R.sizes.core (omega arith))) j c)
            (span_same h α (λ i d e. ap (λ (x : F). p t i ⊗ x) (at_side i j d e c)))
            ∙ add_twice (C t j) (known k α h p κ without l C t j)

        mid-gives : h ≤ j → j < k → left (α + h) (p t) W j ≡ C t j
        mid-gives c d =
            split-high W t j c b (λ i e. at-beside i j c b)
            ∙ ap₂ ◌⊕◌ (dot-same k (λ i e. refl) (λ i e. at_top i j e c ∙ pick-lt j k _ _ d) ∙ R.frame.solves (λ t. C t j ⊕ given t) t a)
            (span_same k α (λ i e f. ap (λ (x : F). p t i ⊗ x) (at-down i j e f c d)))
            ∙ add_twice (C t j) (given t)
          where
            given : Vec
            given t = span k α (λ i. p t i ⊗ κ (λ u. C u i) j)

        far-gives : k ≤ j → left (α + h) (p t) W j ≡ C t j
        far-gives c =
            split-high W t j (omega (arith, h≤k)) b (λ i e. at-beside i j (omega (arith, h≤k)) b)
            ∙ add_none _ (span-zero k α (λ i e f. mul-none (p t i) (at-corner i j e f c)))
            ∙ dot-same k (λ i e. refl) (λ i e. at_top i j e (omega (arith, h≤k)) ∙ pick-ge j k _ _ c) ∙ R.frame.solves (λ t. C t j) t a

  -- ---- ONE

  -- ONE: for any k shares exactly one grid of the shape gives them
  pub one : (C : Grid) → (W : Grid) × Shape k α h W × Gives k α h p C W
      × ((U : Grid) → Shape k α h U → Gives k α h p C U → SameGrid (α + h) α U W)
  one C = (grid k α h p κ without l C, grid-shape C, grid-solves C, λ U s g. grid-only C U _ s (grid-shape C) g (grid-solves C))

  -- the grid of a grid's shares is that grid
  pub grid-back : (W : Grid) → Shape k α h W → SameGrid (α + h) α (grid k α h p κ without l (λ t. left (α + h) (p t) W)) W
  grid-back W S =
      grid-only (λ t. left (α + h) (p t) W) _ W (grid-shape (λ t. left (α + h) (p t) W)) S (grid-solves (λ t. left (α + h) (p t) W)) (λ t j a b. refl)

  -- it depends on the shares alone
  pub grid-same : (C D : Grid) → SameGrid k α C D → SameGrid (α + h) α (grid k α h p κ without l C) (grid k α h p κ without l D)
  grid-same C D e = grid-only D _ _ (grid-shape C) (grid-shape D) (λ t j a b. grid-solves C t j a b ∙ e t j a b) (grid-solves D)

  -- and is additive
  pub grid-add : (C D : Grid)
      → SameGrid (α + h) α (grid k α h p κ without l (λ t. C t ⊞ D t)) (λ r. grid k α h p κ without l C r ⊞ grid k α h p κ without l D r)
  grid-add C D =
      grid-only (λ t. C t ⊞ D t) _ (λ r. grid k α h p κ without l C r ⊞ grid k α h p κ without l D r) (grid-shape (λ t. C t ⊞ D t)) (shape-add (grid-shape C) (grid-shape D))
      (grid-solves (λ t. C t ⊞ D t)) (λ t j a b. dot-add (α + h) (p t) _ _ ∙ ap₂ ◌⊕◌ (grid-solves C t j a b) (grid-solves D t j a b))
