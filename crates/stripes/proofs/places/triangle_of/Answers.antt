-- The two cases of the definition are the two of the code.
use mathlib.Core.Path.{◌≡◌}
use Prim.Native.Nat.{ℕ, ◌+◌, ◌-◌, ◌<◌, ◌≤◌}
use native.Mathlib.Omega.{arith}
use borrow.Author.Tests.{le-leb, lt-leb}
use Rattle.codes.specs.Places.{start, triangle}
use Rattle.codes.proofs.Places.{triangle-within}
use Rattle.stripes.proofs.places.triangle_of.Goals as goal

upper : (w i j r : ℕ) → i ≤ j → r ≡ start w i → r + (j - i) ≡ triangle w i j
unfolding triangle
upper w i j r h e = simp (le-leb _ _ h) (omega arith)

lower : (w i j r : ℕ) → j < i → r ≡ start w j → r + (i - j) ≡ triangle w i j
unfolding triangle
lower w i j r h e = simp (lt-leb _ _ h) (omega arith)

pub returns-then-i-j : goal.returns-then-i-j
returns-then-i-j c =
    let s = c.args in
    let e : c.start_of.result + (s.j - s.i) ≡ triangle s.w s.i s.j = upper _ _ _ _ (omega arith) c.start_of.ensures.0 in
    (e, omega (arith, triangle-within s.w s.i s.j (omega arith) (omega arith)))

pub returns-else-i-j : goal.returns-else-i-j
returns-else-i-j c =
    let s = c.args in
    let e : c.start_of-else-i-j.result + (s.i - s.j) ≡ triangle s.w s.i s.j = lower _ _ _ _ (omega arith) c.start_of-else-i-j.ensures.0 in
    (e, omega (arith, triangle-within s.w s.i s.j (omega arith) (omega arith)))
