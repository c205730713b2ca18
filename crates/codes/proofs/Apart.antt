-- The points of different nodes differ, and, where a row's last entries are its first times lambda, so do the lambdas.
-- So the rows of any s different nodes, cut to s entries, are a frame, and any k nodes give what collecting asks of rows.
-- Assumes nothing.
use mathlib.Core.Path.{◌≡◌, ◌∙◌, sym, ap}
use mathlib.Core.Logic.{◌≢◌, ◌⊎◌, inl, inr, by_cases}
use mathlib.Core.List.{List}
use Prim.Native.Nat.{ℕ, ◌-◌, ◌%◌, ◌<◌}
use native.Mathlib.Decide.{dec_lt}
use native.Mathlib.Omega.{arith}
use lib.ListN.{get_or}
use Rattle.algebra.specs.Symbol.{F, symbol, pow}
use Rattle.algebra.specs.Poly.{interp, Distinct}
use Rattle.algebra.specs.Frame.{Frame, Below, off}
use Rattle.algebra.specs.Collect.{Rows}
use Rattle.algebra.proofs.Ring.{pow-val}
use Rattle.algebra.proofs.Frame.{frame-powers}
use Rattle.algebra.proofs.Rows.{rows-powers}
use Rattle.codes.specs.Sizes.{none, alpha, point}
use Rattle.codes.specs.Judge.{mark}
use Rattle.codes.specs.Rules.{Rules, Chosen}
use Rattle.codes.specs.Rebuild.{points_of}
use Rattle.codes.specs.declared.Code.{Code}
use Rattle.codes.proofs.Pairs.{mark-one, mark-two}
use Rattle.codes.proofs.Sizes.{alpha-one, alpha-two}
use Rattle.codes.proofs.Matrix.{sizes}

-- ---- equal points have equal marks

number : (x y : ℕ) → symbol x ≡ symbol y → x % 256 ≡ y % 256
unfolding symbol
number x y e = ap (λ (a : F). a.val) e

-- equal lambdas too
mark-lambda : (c : Code) (x y : ℕ) → c.kind ≢ 1 → pow (symbol x) (alpha c) ≡ pow (symbol y) (alpha c) → mark c x ≡ mark c y
mark-lambda c x y n e =
    mark-two c x n ∙ pow-val x (c.k - 1)
    ∙ ap (λ (a : F). a.val) (ap (pow (symbol x)) (sym (alpha-two c n)) ∙ e ∙ ap (pow (symbol y)) (alpha-two c n))
    ∙ sym (mark-two c y n ∙ pow-val y (c.k - 1))

mark-point : (c : Code) (x y : ℕ) → (c.kind ≡ 1) ⊎ (c.kind ≡ 2) → symbol x ≡ symbol y → mark c x ≡ mark c y
mark-point c x y k e = elim k [
  | inl a ↦ mark-one c x a ∙ number x y e ∙ sym (mark-one c y a)
  | inr b ↦ mark-lambda c x y (omega arith) (ap (λ (a : F). pow a (alpha c)) e)
]

-- ---- so the points of different nodes differ

module _ {c : Code} (R : Rules c) {s : ℕ} {vs : List ℕ} (N : Chosen c.n s vs) where
  abbrev raw : ℕ → ℕ
  raw t = (get_or c.points (get_or vs t 0 - 1) none).0

  marks-apart : (i j : ℕ) → i < s → j < s → i ≢ j → mark c (raw i) ≢ mark c (raw j)
  marks-apart i j a b n e =
      by_cases (dec_lt (get_or vs i 0 - 1) (get_or vs j 0 - 1))
      (λ l. R.apart (get_or vs i 0 - 1) (get_or vs j 0 - 1) l (omega (arith, N.from j b, N.to j b)) e)
      (λ m. R.apart (get_or vs j 0 - 1) (get_or vs i 0 - 1) (omega (arith, N.from i a, N.from j b, differ)) (omega (arith, N.from i a, N.to i a)) (sym e))
    where
      differ : get_or vs i 0 ≢ get_or vs j 0
      differ f = by_cases (dec_lt i j) (λ l. N.differ i j l b f) (λ m. N.differ j i (omega arith) a (sym f))

  pub points-apart : Distinct s (points_of c vs)
  unfolding point
  points-apart i j a b n e = marks-apart i j a b n (mark-point c (raw i) (raw j) R.kinds e)

  pub lambdas-apart : 0 < c.d - alpha c → Distinct s (λ t. pow (points_of c vs t) (alpha c))
  unfolding point
  lambdas-apart h i j a b n e = marks-apart i j a b n (mark-lambda c (raw i) (raw j) (λ k. omega (arith, alpha-one c k)) e)

  pub frame : Frame s (Below s) (λ t. pow (points_of c vs t)) (interp s (points_of c vs))
  frame = frame-powers s (points_of c vs) points-apart

pub rows : {c : Code} → Rules c → {vs : List ℕ} → Chosen c.n c.k vs
    → Rows c.k (alpha c) (c.d - alpha c) (λ t. pow (points_of c vs t)) (interp c.k (points_of c vs))
    (off (λ f. interp (c.d - alpha c) (λ t. points_of c vs (f t)))) (λ t. pow (points_of c vs t) (alpha c))
rows {c} R {vs} N = rows-powers (sizes R) (points_of c vs) (points-apart R N) (lambdas-apart R N)
