-- The grid that k shares fix, for every kind at once. Its numbers are k, α and h: a grid has α + h rows and α columns,
-- and of each row of the code the last h entries are its first h times a factor. A kind without such entries has h = 0.
--
-- Sizes k α h      h is 0, or k is h + 1; h ≤ α; and where α is above h, k ≤ α
-- Shape k α h W    symmetric in its first α rows, but for the rows and columns from h to k; 𝟘 from k on, both ways;
--                  below, symmetric of side h, and 𝟘 beside it
-- Gives k α h p C W   the share of row p t is C t, for each of the k rows
-- Agree k α p C    each two of the k shares give one another the same symbol
-- Rows k α h p κ without l   what is asked of the k rows p t: their first k entries are a frame, solved by κ; the first h of any h
--                  of h + 1 rows too, solved by without; the last h of each are l t times its first h; and the l t differ
-- span a b f       the sum of f from a to b - 1
--
-- Of the rows p and the shares C:
-- far              the grid's columns from k on
-- mid              its columns from h to k
-- col              its columns from h on
-- known            what those columns give at the columns below h
-- rest             what is left there of the shares
-- grid             the grid of the shape that gives the shares
use Rattle.std.specs.Prelude.{◌≡◌, ℕ, suc, ◌+◌, ◌-◌, ◌<◌, ◌≤◌}
use Rattle.algebra.specs.Symbol.{F, ◌⊕◌, ◌⊗◌, 𝟘}
use Rattle.algebra.specs.Sums.{Vec, Grid, pick, sum, dot, left}
use Rattle.algebra.specs.Poly.{Distinct}
use Rattle.algebra.specs.Frame.{Frame, Below, Off}
use Rattle.algebra.specs.Hollow.{core₁, core₂}

pub record Sizes (k α h : ℕ) : Type 0 where
  pub core : 0 < h → k ≡ suc h
  pub room : h ≤ α
  pub wide : h < α → k ≤ α

pub record Shape (k α h : ℕ) (W : Grid) : Type 0 where
  pub low : (i j : ℕ) → i < α → j < h → W i j ≡ W j i
  pub high : (i j : ℕ) → i < α → k ≤ j → j < α → W i j ≡ W j i
  pub corner : (i j : ℕ) → k ≤ i → i < α → k ≤ j → j < α → W i j ≡ 𝟘
  pub under : (i j : ℕ) → i < h → j < h → W (α + i) j ≡ W (α + j) i
  pub beside : (i j : ℕ) → i < h → h ≤ j → j < α → W (α + i) j ≡ 𝟘

abbrev pub Gives : ℕ → ℕ → ℕ → Grid → Grid → Grid → Type 0
Gives k α h p C W = (t j : ℕ) → t < k → j < α → left (α + h) (p t) W j ≡ C t j

abbrev pub Agree : ℕ → ℕ → Grid → Grid → Type 0
Agree k α p C = (a b : ℕ) → a < k → b < k → dot α (C a) (p b) ≡ dot α (C b) (p a)

pub record Rows (k α h : ℕ) (p : Grid) (κ : Vec → Vec) (without : ℕ → Vec → Vec) (l : Vec) : Type 0 where
  pub sizes : Sizes k α h
  pub frame : Frame k (Below k) p κ
  pub frames : (t : ℕ) → t < suc h → Frame h (Off h t) p (without t)
  pub apart : Distinct (suc h) l
  pub scaled : (t i : ℕ) → t < k → i < h → p t (α + i) ≡ l t ⊗ p t i

abbrev pub span : ℕ → ℕ → Vec → F
span a b f = sum (b - a) (λ i. f (a + i))

module _ (k α h : ℕ) (p : Grid) (κ : Vec → Vec) (without : ℕ → Vec → Vec) (l : Vec) (C : Grid) where
  unfoldable pub far : Grid
  far j = κ (λ t. C t j)

  unfoldable pub mid : Grid
  mid j = κ (λ t. C t j ⊕ span k α (λ i. p t i ⊗ far i j))

  unfoldable pub col : Grid
  col j i = pick j k (mid j i) (far j i)

  unfoldable pub known : Grid
  known t j = span h α (λ i. p t i ⊗ col i j)

  unfoldable pub rest : Grid
  rest t j = C t j ⊕ known t j

  unfoldable pub grid : Grid
  grid r j =
      pick j h
      (pick r h (core₁ h p without l rest r j) (pick r α (col r j) (core₂ h p without l rest (r - α) j)))
      (pick r k (col j r) (pick r α (pick j k (far r j) 𝟘) 𝟘))
