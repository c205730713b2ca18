-- S1 above S2: each is one case of the code.
use mathlib.Core.Path.{◌≡◌, ap}
use Prim.Native.Nat.{ℕ, ◌+◌, ◌-◌, ◌<◌, ◌≤◌}
use native.Mathlib.Omega.{arith}
use borrow.Author.Tests.{lt-ltb, le-ltb}
use Rattle.codes.specs.Places.{start, triangle}
use Rattle.codes.specs.Matrix.{msr}
use Rattle.algebra.specs.Sums.{Vec}
use Rattle.stripes.proofs.Shapes.{pair-high}
use Rattle.stripes.proofs.places.msr_place.Goals as goal

module _ (k i j : ℕ) where
  in-s1 : (r : ℕ) → i < k - 1 → r ≡ triangle (k - 1) i j → (f : Vec) → f r ≡ msr k f i j
  unfolding msr
  in-s1 r a e f = simp (lt-ltb _ _ a) (ap f e)

  in-s2 : (s t : ℕ) → k - 1 ≤ i → s ≡ start (k - 1) (k - 1) → t ≡ triangle (k - 1) (i - (k - 1)) j → (f : Vec) → f (s + t) ≡ msr k f i j
  unfolding msr
  in-s2 s t a e g f = simp (le-ltb _ _ a) (ap f (omega arith))

pub returns-then-i-w : goal.returns-then-i-w
returns-then-i-w c =
    (omega (arith, c.triangle_of.ensures.1, pair-high (c.args.k - 1) (omega arith)), in-s1 _ _ _ _ (omega arith) c.triangle_of.ensures.0)

pub returns-else-i-w : goal.returns-else-i-w
returns-else-i-w c = (
  omega (arith, c.start_of.ensures.0, c.triangle_of-else-i-w.ensures.1, pair-high (c.args.k - 1) (omega arith)),
  in-s2 _ _ _ _ _ (omega arith) c.start_of.ensures.0 c.triangle_of-else-i-w.ensures.0,
)
