-- The laws of frames: a system of equations has one solution, and it is linear in the values.
-- Rows of powers at distinct points are frames of every size.
use mathlib.Core.Path.{◌≡◌, ◌∙◌, refl, sym, ap, ap₂}
use mathlib.Core.Logic.{◌≢◌, by_cases}
use Prim.Native.Nat.{ℕ, zero, suc, ◌<◌, ◌≤◌}
use native.Mathlib.Nat.{not-suc-le-zero, le_of_suc-le-suc, suc_inj}
use native.Mathlib.Decide.{dec_lt}
use native.Mathlib.Omega.{arith}
use Rattle.algebra.specs.Symbol.{F, ◌⊕◌, ◌⊗◌, 𝟘, pow}
use Rattle.algebra.specs.Sums.{Vec, Grid, Same, ◌⊞◌, dot, unit, right, form}
use Rattle.algebra.specs.Poly.{interp, Distinct}
use Rattle.algebra.specs.Frame.{Solves, Below, Off, Frame, Choice, Solver, Frames, skip, unskip, off}
use Rattle.algebra.proofs.Ring.{equal, vanish}
use Rattle.algebra.proofs.Sums.{dot-same, dot-comm, dot-add, dot-mul, sum-unit, unit-comm, assoc}
use Rattle.algebra.proofs.Poly.{ev-dot, ev-interp, roots-zero}

-- ---- one solution

module _ {s : ℕ} {On : ℕ → Type 0} {R : Grid} {sol : Vec → Vec} (G : Frame s On R sol) where
  -- two vectors with the same products are the same
  pub unique : (v w : Vec) → ((t : ℕ) → On t → dot s (R t) v ≡ dot s (R t) w) → Same s v w
  unique v w e i h = equal (G.only (v ⊞ w) (λ t k. dot-add s (R t) v w ∙ vanish (e t k)) i h)

  -- what solves is the solution
  pub sol-only : (y v : Vec) → Solves On s R y v → Same s v (sol y)
  sol-only y v e = unique v (sol y) (λ t k. e t k ∙ sym (G.solves y t k))

  -- the solution depends on the values alone
  pub sol-same : (y z : Vec) → ((t : ℕ) → On t → y t ≡ z t) → Same s (sol y) (sol z)
  sol-same y z e = sol-only z (sol y) (λ t k. G.solves y t k ∙ e t k)

  -- the solution is linear in the values
  pub sol-add : (y z : Vec) → Same s (sol y ⊞ sol z) (sol (y ⊞ z))
  sol-add y z = sol-only (y ⊞ z) (sol y ⊞ sol z) (λ t k. dot-add s (R t) (sol y) (sol z) ∙ ap₂ ◌⊕◌ (G.solves y t k) (G.solves z t k))

  pub sol-mul : (a : F) (y : Vec) → Same s (λ i. a ⊗ sol y i) (sol (λ t. a ⊗ y t))
  sol-mul a y = sol-only (λ t. a ⊗ y t) (λ i. a ⊗ sol y i) (λ t k. dot-mul s a (R t) (sol y) ∙ ap (λ (x : F). a ⊗ x) (G.solves y t k))

  -- the solution from those for the unit vectors
  pub sol-units : (n : ℕ) → ((t : ℕ) → On t → t < n) → (y : Vec) → Same s (λ i. dot n y (λ t. sol (unit t) i)) (sol y)
  sol-units n b y = sol-only y (λ i. dot n y (λ t. sol (unit t) i)) (λ t k.
      dot-same s (λ i h. refl) (λ i h. dot-comm n y (λ u. sol (unit u) i)) ∙ sym (assoc s n (R t) (λ i u. sol (unit u) i) y)
      ∙ dot-same n (λ u h. G.solves (unit u) t k ∙ unit-comm u t) (λ u h. refl) ∙ sum-unit n t y (b t k))

  -- a grid whose forms with all pairs of rows are 𝟘 is 𝟘
  pub form-only : (Z : Grid) → ((a b : ℕ) → On a → On b → form s s (R a) Z (R b) ≡ 𝟘) → (i j : ℕ) → i < s → j < s → Z i j ≡ 𝟘
  form-only Z e i j h k =
      G.only (Z i) (λ b l. dot-comm s (R b) (Z i) ∙ G.only (right s Z (R b)) (λ a m. e a b m l) i h) j k

-- ---- more equations than unknowns

-- n rows, of which the first s are a frame, have a solution exactly when the solution of the first s fits the rest;
-- and then that one is the only one
pub fits_iff : {s n : ℕ} {R : Grid} {sol : Vec → Vec} → Frame s (Below s) R sol → s ≤ n → (y : Vec)
    → (((v : Vec) × Solves (Below n) s R y v) → (t : ℕ) → s ≤ t → t < n → dot s (R t) (sol y) ≡ y t)
    × (((t : ℕ) → s ≤ t → t < n → dot s (R t) (sol y) ≡ y t)
    → Solves (Below n) s R y (sol y) × ((v : Vec) → Solves (Below n) s R y v → Same s v (sol y)))
fits_iff {s} {n} {R} {sol} G l y = (λ w t a b. dot-same s (λ i k. refl) (λ i k. sym (only w.0 w.1 i k)) ∙ w.1 t b, λ e. (all e, only))
  where
    only : (v : Vec) → Solves (Below n) s R y v → Same s v (sol y)
    only v e = sol-only G y v (λ t h. e t (omega arith))

    all : ((t : ℕ) → s ≤ t → t < n → dot s (R t) (sol y) ≡ y t) → Solves (Below n) s R y (sol y)
    all e t h = by_cases (dec_lt t s) (G.solves y t) (λ m. e t (omega arith) h)

-- ---- rows taken from a frame by their places

-- f places s rows, and g finds each one's place
pub chosen : {s : ℕ} {On : ℕ → Type 0} {R : Grid} {sol : Vec → Vec} (f g : ℕ → ℕ) → ((t : ℕ) → t < s → On (f t))
    → ((t : ℕ) → On t → (g t < s) × (f (g t) ≡ t)) → Frame s (Below s) (λ t. R (f t)) sol → Frame s On R (λ y. sol (λ t. y (f t)))
chosen {s} {R} {sol} f g on back G = record {
  solves = λ y t k. ap (λ (r : ℕ). dot s (R r) (sol (λ u. y (f u)))) (sym (back t k).1) ∙ G.solves (λ u. y (f u)) (g t) (back t k).0 ∙ ap y (back t k).1;
  only = λ v e. G.only v (λ t h. e (f t) (on t h));
}

skip-other : (p t : ℕ) → skip p t ≢ p
unfolding skip
skip-other zero t e = omega arith
skip-other (suc p) zero e = omega arith
skip-other (suc p) (suc t) e = skip-other p t (suc_inj e)

pub skip-lt : (p t h : ℕ) → t < h → skip p t < suc h
unfolding skip
skip-lt zero t h k = omega arith
skip-lt (suc p) zero h k = omega arith
skip-lt (suc p) (suc t) zero k = absurd (not-suc-le-zero k)
skip-lt (suc p) (suc t) (suc h) k = omega (arith, skip-lt p t h (le_of_suc-le-suc k))

skip-apart : (p i j : ℕ) → i ≢ j → skip p i ≢ skip p j
unfolding skip
skip-apart zero i j n e = n (suc_inj e)
skip-apart (suc p) zero zero n e = n refl
skip-apart (suc p) zero (suc j) n e = omega arith
skip-apart (suc p) (suc i) zero n e = omega arith
skip-apart (suc p) (suc i) (suc j) n e = skip-apart p i j (λ d. n (ap suc d)) (suc_inj e)

pub unskip-back : (p t h : ℕ) → p < suc h → Off h p t → (unskip p t < h) × (skip p (unskip p t) ≡ t)
unfolding skip unskip
unskip-back zero zero h k o = absurd (o.1 refl)
unskip-back zero (suc t) h k o = (le_of_suc-le-suc o.0, refl)
unskip-back (suc p) zero h k o = (omega arith, refl)
unskip-back (suc p) (suc t) zero k o = absurd (omega arith)
unskip-back (suc p) (suc t) (suc h) k o =
    let r : (unskip p t < h) × (skip p (unskip p t) ≡ t) = unskip-back p t h (le_of_suc-le-suc k) (le_of_suc-le-suc o.0, λ e. o.1 (ap suc e)) in
    (omega arith, ap suc r.1)

skip-choice : (p h : ℕ) → Choice (suc h) h (skip p)
skip-choice p h = record { within = λ t k. skip-lt p t h k; apart = λ i j k l n. skip-apart p i j n }

-- all rows but one
pub frame_off : {h : ℕ} {R : Grid} {σ : Solver} → Frames (suc h) h R σ → (p : ℕ) → p < suc h → Frame h (Off h p) R (off σ p)
frame_off {h} G p k =
    chosen (skip p) (unskip p) (λ t l. (skip-lt p t h l, skip-other p t)) (λ t o. unskip-back p t h k o) (G (skip p) (skip-choice p h))

-- the first rows
pub frame-first : {n s : ℕ} {R : Grid} {σ : Solver} → s ≤ n → Frames n s R σ → Frame s (Below s) R (σ (λ t. t))
frame-first l G = G (λ t. t) (record { within = λ t k. omega arith; apart = λ i j h k n. n })

-- ---- rows of powers

-- at s distinct points the rows of powers fix a vector of s entries
pub frame-powers : (s : ℕ) (xs : Vec) → Distinct s xs → Frame s (Below s) (λ t. pow (xs t)) (interp s xs)
frame-powers s xs d = record {
  solves = λ y t h. sym (ev-dot s (interp s xs y) (xs t)) ∙ ev-interp s xs y d t h;
  only = λ v e. roots-zero s xs v d (λ t h. ev-dot s v (xs t) ∙ e t h);
}

-- so do any s of n
pub frames-powers : (n s : ℕ) (xs : Vec) → Distinct n xs → Frames n s (λ t. pow (xs t)) (λ f. interp s (λ t. xs (f t)))
frames-powers n s xs d f c = frame-powers s (λ t. xs (f t)) (λ i j h k e. d (f i) (f j) (c.within i h) (c.within j k) (c.apart i j h k e))
