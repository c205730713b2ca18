-- Tests and their parts.
-- Assumes nothing.
use mathlib.Core.Path.{◌≡◌, refl, sym}
use mathlib.Core.Bool.{Bool, true, false, ◌&&◌}
use Prim.Native.Nat.{ℕ}
use native.Mathlib.Omega.{arith}

pub apart : {A : Type 0} (b : Bool) → b ≡ true → b ≡ false → A
apart b p q = let z : ◌≡◌ {A = ℕ} 0 1 = cc in absurd (omega arith)

-- by which way a test goes
pub by-test : {A : Type 0} (b : Bool) → (b ≡ true → A) → (b ≡ false → A) → A
by-test true f g = f refl
by-test false f g = g refl

pub both : (a b : Bool) → a ≡ true → b ≡ true → (a && b) ≡ true
both true b p q = q
both false b p q = p

pub and_left : (a b : Bool) → (a && b) ≡ true → a ≡ true
and_left true b e = refl
and_left false b e = e

pub and_right : (a b : Bool) → (a && b) ≡ true → b ≡ true
and_right true b e = e
and_right false b e = apart false e refl

-- a test that would show what is false fails
pub fails : (b : Bool) → (b ≡ true → ⊥) → b ≡ false
fails true h = absurd (h refl)
fails false h = refl

pub same : (a b : Bool) → (a ≡ true → b ≡ true) → (a ≡ false → b ≡ false) → a ≡ b
same true b f g = sym (f refl)
same false b f g = sym (g refl)
