-- Each of the four blocks of the matrix is one case of the code.
use mathlib.Core.Path.{◌≡◌, ap}
use Prim.Native.Nat.{ℕ, ◌+◌, ◌*◌, ◌-◌, ◌<◌, ◌≤◌}
use native.Mathlib.Omega.{arith}
use borrow.Author.Tests.{lt-ltb, le-ltb}
use Rattle.codes.specs.Places.{start, triangle}
use Rattle.codes.specs.Matrix.{mbr}
use Rattle.algebra.specs.Symbol.{𝟘}
use Rattle.algebra.specs.Sums.{Vec}
use Rattle.stripes.proofs.Shapes.{block-high}
use Rattle.stripes.proofs.places.mbr_place.Goals as goal

module _ (k d i j r : ℕ) where
  in-s : i < k → j < k → r ≡ triangle k i j → (f : Vec) → f r ≡ mbr k d f i j
  unfolding mbr
  in-s a b e f = simp (lt-ltb _ _ a, lt-ltb _ _ b) (ap f e)

  in-t : i < k → k ≤ j → r ≡ start k k + (i * (d - k) + (j - k)) → (f : Vec) → f r ≡ mbr k d f i j
  unfolding mbr
  in-t a b e f = simp (lt-ltb _ _ a, le-ltb _ _ b) (ap f e)

  below-s : k ≤ i → j < k → r ≡ start k k + (j * (d - k) + (i - k)) → (f : Vec) → f r ≡ mbr k d f i j
  unfolding mbr
  below-s a b e f = simp (le-ltb _ _ a, lt-ltb _ _ b) (ap f e)

nowhere : (k d i j : ℕ) → k ≤ i → k ≤ j → (f : Vec) → mbr k d f i j ≡ 𝟘
unfolding mbr
nowhere k d i j a b f = simp (le-ltb _ _ a, le-ltb _ _ b)

pub returns-in-true-true : goal.returns-in-true-true
returns-in-true-true c =
    (omega (arith, c.triangle_of.ensures.1, block-high c.args.k 0 (omega arith)), in-s _ _ _ _ _ (omega arith) (omega arith) c.triangle_of.ensures.0)

pub returns-in-true-false : goal.returns-in-true-false
returns-in-true-false c = (c.beside.ensures.1, in-t _ _ _ _ _ (omega arith) (omega arith) c.beside.ensures.0)

pub returns-in-false-true : goal.returns-in-false-true
returns-in-false-true c = (c.beside-in-false-true.ensures.1, below-s _ _ _ _ _ (omega arith) (omega arith) c.beside-in-false-true.ensures.0)

pub returns-in-false-false : goal.returns-in-false-false
returns-in-false-false c = nowhere _ _ _ _ (omega arith) (omega arith)
