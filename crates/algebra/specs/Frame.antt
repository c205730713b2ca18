-- Systems of equations: rows that fix a vector, and what solves for it.
--
-- Solves On s R y v    v, of s entries, gives the value y t with each row R t, for the t of On
-- Below n t            t is below n
-- Off h p t            t is below h + 1, and is not p
-- Frame s On R sol     the rows of On fix a vector of s entries: sol y solves for any values y, and only 𝟘 gives 𝟘 with all
-- Choice n s f         f gives s different numbers below n
-- Solver               for each choice of rows, what solves for them
-- Frames n s R σ       any s of the first n rows are a frame; σ f solves for those that f chooses
-- skip p t             the number at place t where p is left out
-- unskip p t           the place of t there
-- off σ p              what solves for the rows other than p
use Rattle.std.specs.Prelude.{◌≡◌, ◌≢◌, ℕ, zero, suc, ◌<◌}
use Rattle.algebra.specs.Symbol.{𝟘}
use Rattle.algebra.specs.Sums.{Vec, Grid, Same, dot}

abbrev pub Solves : (ℕ → Type 0) → ℕ → Grid → Vec → Vec → Type 0
Solves On s R y v = (t : ℕ) → On t → dot s (R t) v ≡ y t

abbrev pub Below : ℕ → ℕ → Type 0
Below n t = t < n

abbrev pub Off : ℕ → ℕ → ℕ → Type 0
Off h p t = (t < suc h) × (t ≢ p)

pub record Frame (s : ℕ) (On : ℕ → Type 0) (R : Grid) (sol : Vec → Vec) : Type 0 where
  pub solves : (y : Vec) → Solves On s R y (sol y)
  pub only : (v : Vec) → Solves On s R (λ t. 𝟘) v → Same s v (λ i. 𝟘)

pub record Choice (n s : ℕ) (f : ℕ → ℕ) : Type 0 where
  pub within : (t : ℕ) → t < s → f t < n
  pub apart : (i j : ℕ) → i < s → j < s → i ≢ j → f i ≢ f j

abbrev pub Solver : Type 0
Solver = (ℕ → ℕ) → Vec → Vec

abbrev pub Frames : ℕ → ℕ → Grid → Solver → Type 0
Frames n s R σ = (f : ℕ → ℕ) → Choice n s f → Frame s (Below s) (λ t. R (f t)) (σ f)

unfoldable pub skip : ℕ → ℕ → ℕ
skip zero t = suc t
skip (suc p) zero = zero
skip (suc p) (suc t) = suc (skip p t)

unfoldable pub unskip : ℕ → ℕ → ℕ
unskip zero zero = zero
unskip zero (suc t) = t
unskip (suc p) zero = zero
unskip (suc p) (suc t) = suc (unskip p t)

abbrev pub off : Solver → ℕ → Vec → Vec
off σ p y = σ (skip p) (λ t. y (skip p t))
