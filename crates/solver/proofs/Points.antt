-- Interpolation reads no more points than it has values to meet.
use mathlib.Core.Path.{◌≡◌, ◌∙◌, refl, ap₂}
use Prim.Native.Nat.{ℕ, zero, suc}
use native.Mathlib.Omega.{arith}
use Rattle.algebra.specs.Symbol.{F, ◌⊕◌, ◌⊗◌, inv}
use Rattle.algebra.specs.Sums.{Vec, Same}
use Rattle.algebra.specs.Poly.{tail, newton, slopes, interp}
use Rattle.solver.proofs.Linear.{interp-same}

newton-points : (y : F) {x z : F} {p q : Vec} → x ≡ z → ((j : ℕ) → p j ≡ q j) → (i : ℕ) → newton y x p i ≡ newton y z q i
newton-points y e d i = ap₂ (λ (x : F) (q : Vec). newton y x q i) e (λ k j. d j k)

-- only the first s points count
pub interp-points : (s : ℕ) {xs zs : Vec} (ys : Vec) → Same s xs zs → (i : ℕ) → interp s xs ys i ≡ interp s zs ys i
unfolding interp
interp-points zero ys e i = refl
interp-points (suc s) {xs} {zs} ys e i =
    newton-points (ys 0) (e 0 (omega arith))
    (λ j. interp-points s (slopes xs ys) (λ t h. e (suc t) (omega arith)) j
    ∙ interp-same s (tail zs)
    (λ t h. ap₂ (λ (x z : F). (ys (suc t) ⊕ ys 0) ⊗ inv (x ⊕ z)) (e (suc t) (omega arith)) (e 0 (omega arith))) j) i
