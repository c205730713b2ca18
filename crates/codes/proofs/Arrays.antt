-- Arrays that a closure makes element by element, where each call leaves the closure as it was.
--   from_fn-at     `from_fn` gives at each index what the closure says of it
-- Assumes nothing.
use mathlib.Core.Path.{◌≡◌, ◌∙◌, sym, ap, subst}
use mathlib.Core.List.{List}
use Prim.Native.Nat.{ℕ, zero, suc, ◌+◌, ◌<◌, ◌≤◌}
use native.Mathlib.Omega.{arith}
use lib.Dec.{eqb}
use lib.ListN.{get_or}
use borrow.Author.Tests.{eqb-true, eqb-false}
use denote.Param.Members.{Mut}
use Rattle.std.specs.Fn.{Called}
use Rattle.std.specs.Array.{IsFromFnResultFrom, IsFromFnResult}
use Rattle.codes.proofs.Bools.{by-test}

module _ {F B : Type 0} (g : Mut F (ℕ × Unit {0}) B) (f : F) (h : ℕ → B) (says : (i : ℕ) (y : B) (q : F) → Called g f (i, tt) y q → (y ≡ h i) × (q ≡ f)) where
  made-at : (ys : List B) (e : B) (i n : ℕ) → IsFromFnResultFrom g f ys i n → (j : ℕ) → i ≤ j → j < i + n → get_or ys j e ≡ h j
  made-at ys e i zero m j l u = absurd (omega arith)
  made-at ys e i (suc n) m j l u =
      let s = says i m.1 m.0 m.3 in
      by-test (eqb i j)
      (λ t. let k = eqb-true i j t in ap (λ (p : ℕ). get_or ys p e) (sym k) ∙ m.2.1 e ∙ s.0 ∙ ap h k)
      (λ t. let k = eqb-false i j t in
      made-at ys e (i + 1) n (subst (λ (p : F). IsFromFnResultFrom g p ys (i + 1) n) s.1 m.4) j (omega arith) (omega arith))

  pub from_fn-at : (ys : List B) (e : B) (n : ℕ) → IsFromFnResult g f ys n → (j : ℕ) → j < n → get_or ys j e ≡ h j
  from_fn-at ys e n m j l = made-at ys e 0 n m.each j (omega arith) (omega arith)
