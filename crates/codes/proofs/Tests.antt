-- The judge's tests of a code's kind and size, and the rules that they stand for.
-- Assumes nothing.
use mathlib.Core.Path.{◌≡◌, refl}
use mathlib.Core.Logic.{inl, inr}
use mathlib.Core.Bool.{Bool, true, false, not, ◌&&◌, ◌||◌}
use Prim.Native.Nat.{ℕ, ◌*◌, ◌-◌}
use lib.Dec.{eqb, leb}
use borrow.Author.Tests.{leb-true, eqb-true, eq-eqb, ne_eqb, le-leb}
use Rattle.codes.specs.Judge.{known, sized}
use Rattle.codes.specs.Rules.{Known, Sized}
use Rattle.codes.specs.declared.Code.{Code}
use Rattle.codes.proofs.Bools.{apart, by-test, both, and_left, and_right, fails}

pub known-when : (kind : ℕ) → Known kind → known kind ≡ true
unfolding known
known-when kind (inl e) = simp (eq-eqb kind 1 e)
known-when kind (inr e) = by-test (eqb kind 1) (λ t. simp t) (λ t. simp (t, eq-eqb kind 2 e))

pub known_only : (kind : ℕ) → known kind ≡ true → Known kind
unfolding known
known_only kind e = by-test (eqb kind 1) (λ t. inl (eqb-true kind 1 t)) (λ t. inr (eqb-true kind 2 (simp t at e)))

pub known-other : (kind : ℕ) → (kind ≡ 1 → ⊥) → known kind ≡ eqb kind 2
unfolding known
known-other kind h = simp (ne_eqb kind 1 h)

-- a rule that is asked of kind 2 alone
asked : (t b : Bool) → (t ≡ true → b ≡ true) → (not t || b) ≡ true
asked true b h = h refl
asked false b h = refl

met : (t b : Bool) → (not t || b) ≡ true → t ≡ true → b ≡ true
met true b e h = e
met false b e h = apart false h refl

pub sized-when : (c : Code) → Sized c → sized c ≡ true
unfolding sized
sized-when c s =
    both _ _
    (both _ _ (both _ _ (both _ _ (both _ _ (le-leb _ _ s.fewest) (le-leb _ _ s.most)) (le-leb _ _ s.least)) (le-leb _ _ s.order))
    (le-leb _ _ s.under))
    (asked (eqb c.kind 2) _ (λ t. let r = s.second (eqb-true c.kind 2 t) in both _ _ (le-leb _ _ r.0) (eq-eqb _ _ r.1)))

pub sized-only : (c : Code) → sized c ≡ true → Sized c
unfolding sized
sized-only c e =
    let t1 = leb 2 c.n in
    let t2 = t1 && leb c.n 32 in
    let t3 = t2 && leb 1 c.k in
    let t4 = t3 && leb c.k c.d in
    let t5 = t4 && leb c.d (c.n - 1) in
    let t6 = leb 2 c.k && eqb c.d (2 * c.k - 2) in
    let e5 : t5 ≡ true = and_left t5 (not (eqb c.kind 2) || t6) e in
    let e4 : t4 ≡ true = and_left t4 (leb c.d (c.n - 1)) e5 in
    let e3 : t3 ≡ true = and_left t3 (leb c.k c.d) e4 in
    let e2 : t2 ≡ true = and_left t2 (leb 1 c.k) e3 in
    let e6 : (c.kind ≡ 2 → t6 ≡ true) = λ h. met (eqb c.kind 2) t6 (and_right t5 (not (eqb c.kind 2) || t6) e) (eq-eqb c.kind 2 h) in
    record {
      fewest = leb-true 2 c.n (and_left t1 (leb c.n 32) e2);
      most = leb-true c.n 32 (and_right t1 (leb c.n 32) e2);
      least = leb-true 1 c.k (and_right t2 (leb 1 c.k) e3);
      order = leb-true c.k c.d (and_right t3 (leb c.k c.d) e4);
      under = leb-true c.d (c.n - 1) (and_right t4 (leb c.d (c.n - 1)) e5);
      second = λ h. (
        leb-true 2 c.k (and_left (leb 2 c.k) (eqb c.d (2 * c.k - 2)) (e6 h)),
        eqb-true c.d (2 * c.k - 2) (and_right (leb 2 c.k) (eqb c.d (2 * c.k - 2)) (e6 h)),
      );
    }

-- a code that breaks a rule
pub unsized : (c : Code) → (Sized c → ⊥) → sized c ≡ false
unsized c h = fails (sized c) (λ e. h (sized-only c e))
