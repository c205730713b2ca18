-- A test says a fact: it holds exactly when the fact does. The parts of a test say the parts of the fact.
--   Says t P                        the test t says P
--   not-says, or-says, off-says     of a test that is turned round, of one or another, and of both that are not met
--   says-by                         the same fact in other words
-- Assumes nothing.
use mathlib.Core.Path.{◌≡◌, refl, ap}
use mathlib.Core.Logic.{◌⊎◌, inl, inr, ⊎_elim, ◌↔◌}
use mathlib.Core.Bool.{Bool, true, false, not, ◌&&◌, ◌||◌}
use Prim.Native.Nat.{ℕ, ◌<◌}
use lib.Dec.{eqb, leb}
use borrow.Author.Tests.{eqb-true, eq-eqb, leb-false, lt-leb, not-true}
use Rattle.codes.proofs.Bools.{apart, fails}

abbrev pub Says : Bool → Type 0 → Type 0
Says t P = (t ≡ true) ↔ P

pub says-by : {t : Bool} {P Q : Type 0} → (P → Q) → (Q → P) → Says t P → Says t Q
says-by f g s = (λ e. f (s.0 e), λ q. s.1 (g q))

pub not-says : (t : Bool) {P : Type 0} → Says t P → Says (not t) (P → ⊥)
not-says t s = (λ e p. apart t (s.1 p) (not-true t e), λ h. ap not (fails t (λ e. h (s.0 e))))

pub or-says : (a b : Bool) {P Q : Type 0} → Says a P → Says b Q → Says (a || b) (P ⊎ Q)
or-says true b s t = (λ e. inl (s.0 refl), λ h. refl)
or-says false b s t = (λ e. inr (t.0 e), λ h. ⊎_elim (λ p. apart false (s.1 p) refl) t.1 h)

pub off-says : (a b : Bool) {P Q : Type 0} → Says (not a) P → Says (not b) Q → Says (not (a && b)) (P ⊎ Q)
off-says true b s t = (λ e. inr (t.0 e), λ h. ⊎_elim (λ p. apart false (s.1 p) refl) t.1 h)
off-says false b s t = (λ e. inl (s.0 refl), λ h. refl)

pub eqb-says : (a b : ℕ) → Says (eqb a b) (a ≡ b)
eqb-says a b = (eqb-true a b, eq-eqb a b)

pub leb-off : (a b : ℕ) → Says (not (leb a b)) (b < a)
leb-off a b = (λ e. leb-false a b (not-true _ e), λ h. ap not (lt-leb a b h))
