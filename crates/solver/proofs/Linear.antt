-- Interpolation is linear in the values, at any points: also at points that are equal, where it solves nothing.
use mathlib.Core.Path.{◌≡◌, ◌∙◌, refl, sym, ap, ap₂}
use Prim.Native.Nat.{ℕ, zero, suc}
use native.Mathlib.Omega.{arith}
use Rattle.algebra.specs.Symbol.{F, ◌⊕◌, ◌⊗◌, 𝟘, 𝟙, inv}
use Rattle.algebra.specs.Sums.{Vec, Grid, Same, sum, dot, unit}
use Rattle.algebra.specs.Poly.{tail, newton, slopes, interp}
use Rattle.algebra.proofs.Ring.{ring, add_comm}
use Rattle.algebra.proofs.Sums.{dot-comm, dot-same, unit-comm, sum-unit}

newton-same : {y z : F} (x : F) {p q : Vec} → y ≡ z → ((j : ℕ) → p j ≡ q j) → (i : ℕ) → newton y x p i ≡ newton z x q i
newton-same x e d i = ap₂ (λ (y : F) (q : Vec). newton y x q i) e (λ k j. d j k)

-- only the values at the first s points count
pub interp-same : (s : ℕ) (xs : Vec) {ys zs : Vec} → Same s ys zs → (i : ℕ) → interp s xs ys i ≡ interp s xs zs i
unfolding interp
interp-same zero xs e i = refl
interp-same (suc s) xs {ys} {zs} e i =
    newton-same (xs 0) (e 0 (omega arith))
    (interp-same s (tail xs) (λ j h. ap₂ (λ (y z : F). (y ⊕ z) ⊗ inv (xs (suc j) ⊕ xs 0)) (e (suc j) (omega arith)) (e 0 (omega arith)))) i

newton-linear : (a y z x : F) (p q : Vec) (i : ℕ) → newton (a ⊗ y ⊕ z) x (λ j. a ⊗ p j ⊕ q j) i ≡ a ⊗ newton y x p i ⊕ newton z x q i
unfolding newton
newton-linear a y z x p q zero = simp ring
newton-linear a y z x p q (suc i) = newton-linear a (p 0) (q 0) x (tail p) (tail q) i

slopes-linear : (xs : Vec) (a : F) (ys zs : Vec) (j : ℕ)
    → slopes xs (λ t. a ⊗ ys t ⊕ zs t) j ≡ a ⊗ slopes xs ys j ⊕ slopes xs zs j
slopes-linear xs a ys zs j = simp ring

pub interp-linear : (s : ℕ) (xs : Vec) (a : F) (ys zs : Vec) (i : ℕ)
    → interp s xs (λ t. a ⊗ ys t ⊕ zs t) i ≡ a ⊗ interp s xs ys i ⊕ interp s xs zs i
unfolding interp
interp-linear zero xs a ys zs i = simp ring
interp-linear (suc s) xs a ys zs i =
    newton-same (xs 0) refl
    (λ j. interp-same s (tail xs) (λ t h. slopes-linear xs a ys zs t) j ∙ interp-linear s (tail xs) a (slopes xs ys) (slopes xs zs) j) i
    ∙ newton-linear a (ys 0) (zs 0) (xs 0) (interp s (tail xs) (slopes xs ys)) (interp s (tail xs) (slopes xs zs)) i

pub interp-zero : (s : ℕ) (xs : Vec) (i : ℕ) → interp s xs (λ t. 𝟘) i ≡ 𝟘
interp-zero s xs i =
    interp-same s xs (λ t h. simp ring) i ∙ interp-linear s xs 𝟙 (λ t. 𝟘) (λ t. 𝟘) i ∙ simp ring

-- for a sum of rows of values, each with a factor, it is the sum of what it is for each
pub interp-sum : (s : ℕ) (xs : Vec) (n : ℕ) (u : Vec) (M : Grid) (i : ℕ)
    → dot n u (λ t. interp s xs (M t) i) ≡ interp s xs (λ j. dot n u (λ t. M t j)) i
unfolding sum
interp-sum s xs zero u M i = sym (interp-zero s xs i)
interp-sum s xs (suc n) u M i =
    ap (λ (x : F). x ⊕ u n ⊗ interp s xs (M n) i) (interp-sum s xs n u M i) ∙ add_comm _ _
    ∙ sym (interp-same s xs (λ j h. add_comm _ _) i ∙ interp-linear s xs (u n) (M n) (λ j. dot n u (λ t. M t j)) i)

-- so the solutions for the unit vectors give the solution for any values
pub interp-units : (s : ℕ) (xs ys : Vec) (i : ℕ) → dot s ys (λ t. interp s xs (unit t) i) ≡ interp s xs ys i
interp-units s xs ys i =
    interp-sum s xs s ys unit i
    ∙ interp-same s xs (λ j h. dot-same s (λ t k. refl) (λ t k. unit-comm t j) ∙ dot-comm s ys (unit j) ∙ sum-unit s j ys h) i
