-- The tests before a stripe is written: their ladder, and what the answer of the tests says of the operation's.
--   ladder c long known twice mixed    the reasons of a rebuild or a collection, by their tests: the code, 5, 6, 7, 8
--   by-judge, by_length, by-node, by-repeat, by-mixed, by-none    which of them decides
--   refused-told, refused-leaves, done-told, done-leaves          the operation's answer and output, by that of its tests
-- Assumes nothing.
use mathlib.Core.Path.{◌≡◌, ◌∙◌, refl, sym, ap}
use mathlib.Core.Bool.{Bool, true, false, not, cond}
use mathlib.Core.List.{List, [], ◌∷◌, ◌++◌, append-nil}
use Prim.Native.Nat.{ℕ}
use native.Mathlib.Omega.{arith}
use borrow.Author.Tests.{eq-eqb, ne_eqb, not-false}
use lib.Dec.{eqb}
use Rattle.codes.specs.Told.{Told, Reason, ◌when◌, refused, done, refusal, answered}
use Rattle.codes.specs.Reasons.{Clear, numbered}
use Rattle.codes.specs.Judge.{judge_reasons, judged, pair_in}
use Rattle.codes.specs.Rules.{Rules}
use Rattle.codes.specs.declared.Code.{Code}
use Rattle.codes.specs.declared.Refusal.{Refusal}
use Rattle.codes.specs.declared.Refusal.TheVariants.{Length, Node, Repeat, Mixed}
use Rattle.codes.proofs.Told.{answered-skip, answered-none, answered-number, number-nonzero, refused-first, answered-hand-on, answered-goes-on, done-clear, clear-done}
use Rattle.codes.proofs.Rules.{judge-numbered, rules}

-- ---- the ladder

module _ (c : Code) (long known twice mixed : Bool) where
  abbrev pub after : List Reason
  after = (5 when not long) ∷ (6 when not known) ∷ (7 when twice) ∷ (8 when mixed) ∷ []

  abbrev pub ladder : List Reason
  ladder = judge_reasons c ++ after

  pub by-judge : (r : Refusal) → refused r ≡ judged c → refused r ≡ answered ladder (pair_in c) 0
  unfolding judged
  by-judge r e = answered-hand-on r (judge_reasons c) after (pair_in c) 0 0 e

  module _ (good : done 0 ≡ judged c) where
    goes_on : answered after (pair_in c) 0 ≡ answered ladder (pair_in c) 0
    unfolding judged
    goes_on =
        sym (answered-goes-on (judge_reasons c) after (pair_in c) 0 (done-clear (judge_reasons c) (pair_in c) 0 0 (judge-numbered c) good))

    pub by_length : long ≡ false → refused Length ≡ answered ladder (pair_in c) 0
    by_length e = refused-first Length _ (pair_in c) 0 (λ z. omega arith) (ap not e) ∙ goes_on

    module _ (l : long ≡ true) where
      past-5 : answered ((6 when not known) ∷ (7 when twice) ∷ (8 when mixed) ∷ []) (pair_in c) 0 ≡ answered ladder (pair_in c) 0
      past-5 = sym (answered-skip 5 _ (pair_in c) 0 (ap not l)) ∙ goes_on

      pub by-node : known ≡ false → refused Node ≡ answered ladder (pair_in c) 0
      by-node e = refused-first Node _ (pair_in c) 0 (λ z. omega arith) (ap not e) ∙ past-5

      module _ (k : known ≡ true) where
        past-6 : answered ((7 when twice) ∷ (8 when mixed) ∷ []) (pair_in c) 0 ≡ answered ladder (pair_in c) 0
        past-6 = sym (answered-skip 6 _ (pair_in c) 0 (ap not k)) ∙ past-5

        pub by-repeat : twice ≡ true → refused Repeat ≡ answered ladder (pair_in c) 0
        by-repeat e = refused-first Repeat _ (pair_in c) 0 (λ z. omega arith) e ∙ past-6

        module _ (t : twice ≡ false) where
          past-7 : answered ((8 when mixed) ∷ []) (pair_in c) 0 ≡ answered ladder (pair_in c) 0
          past-7 = sym (answered-skip 7 _ (pair_in c) 0 t) ∙ past-6

          pub by-mixed : mixed ≡ true → refused Mixed ≡ answered ladder (pair_in c) 0
          by-mixed e = refused-first Mixed _ (pair_in c) 0 (λ z. omega arith) e ∙ past-7

          pub by-none : mixed ≡ false → done 0 ≡ answered ladder (pair_in c) 0
          by-none e = sym (answered-none (pair_in c) 0) ∙ sym (answered-skip 8 [] (pair_in c) 0 e) ∙ past-7

  pub ladder-numbered : numbered ladder ≡ true
  unfolding judge_reasons
  ladder-numbered = refl

  -- done: the code keeps the rules, and the lengths are those needed
  pub ladder-good : done 0 ≡ answered ladder (pair_in c) 0 → Rules c × (long ≡ true)
  unfolding judge_reasons judged
  ladder-good e =
      let h : Clear ladder = done-clear ladder (pair_in c) 0 0 ladder-numbered e in
      (rules c (clear-done (judge_reasons c) (pair_in c) 0 (h.0, (h.1.0, (h.1.1.0, tt)))), not-false long h.1.1.1.0)

-- ---- from the tests' answer to the operation's

module _ (rs : List Reason) (p : ℕ × ℕ) where
  module _ (r : Refusal) (e : refused r ≡ answered rs p 0) where
    pub refused-told : (v : ℕ) → refused r ≡ answered rs p v
    refused-told v = answered-hand-on r rs [] p 0 v e ∙ ap (λ (l : List Reason). answered l p v) (append-nil rs)

    pub refused-leaves : (x o : List ℕ) → o ≡ cond (eqb (refusal rs) 0) x o
    refused-leaves x o =
        simp (ne_eqb (refusal rs) 0 (λ z. number-nonzero r (ap (λ (t : Told). t.number) e ∙ answered-number rs p 0 ∙ z)))

  module _ (e : done 0 ≡ answered rs p 0) where
    pub done-told : (v : ℕ) → numbered rs ≡ true → done v ≡ answered rs p v
    done-told v k = sym (clear-done rs p v (done-clear rs p 0 0 k e))

    pub done-leaves : (x o : List ℕ) → x ≡ cond (eqb (refusal rs) 0) x o
    done-leaves x o = simp (eq-eqb (refusal rs) 0 (sym (answered-number rs p 0) ∙ sym (ap (λ (t : Told). t.number) e)))
