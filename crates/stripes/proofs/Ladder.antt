-- The ladder of an operation on a code: the judge's reasons come first, then the operation's own.
--   judged-refused     what the judge refuses is refused
--   judged-stop        of an accepted code the first of the other reasons that holds decides
--   judged-done        where none holds the answer is done
--   refused-leaves, done-leaves     what is written only where nothing is refused
-- Assumes nothing.
use mathlib.Core.Path.{◌≡◌, ◌∙◌, sym, ap}
use mathlib.Core.Logic.{◌≢◌}
use mathlib.Core.Bool.{Bool, true, cond}
use mathlib.Core.List.{List, ◌∷◌, ◌++◌}
use Prim.Native.Nat.{ℕ}
use lib.Dec.{eqb}
use borrow.Author.Tests.{eq-eqb, ne_eqb}
use Rattle.codes.specs.Told.{Told, Reason, ◌when◌, number_of, refused, done, refusal, answered}
use Rattle.codes.specs.Reasons.{Clear}
use Rattle.codes.specs.Judge.{judge_reasons, pair_in, judged}
use Rattle.codes.specs.declared.Code.{Code}
use Rattle.codes.specs.declared.Refusal.{Refusal}
use Rattle.codes.proofs.Told.{number-nonzero, answered-number, answered-hand-on, answered-goes-on, done-clear, clear-done, refused-first}
use Rattle.codes.proofs.Rules.{judge-numbered}

module _ (c : Code) where
  pub judged-refused : (r : Refusal) (more : List Reason) (v : ℕ) → refused r ≡ judged c → refused r ≡ answered (judge_reasons c ++ more) (pair_in c) v
  unfolding judged
  judged-refused r more v e = answered-hand-on r (judge_reasons c) more (pair_in c) 0 v e

  module _ (g : done 0 ≡ judged c) where
    accepted-clear : Clear (judge_reasons c)
    unfolding judged
    accepted-clear = done-clear (judge_reasons c) (pair_in c) 0 0 (judge-numbered c) g

    pub judged-stop : (r : Refusal) (before : List Reason) {t : Bool} (rest : List Reason) (v : ℕ) → number_of r ≢ 4 → Clear before → t ≡ true
        → refused r ≡ answered (judge_reasons c ++ (before ++ ((number_of r when t) ∷ rest))) (pair_in c) v
    judged-stop r before {t} rest v z h e =
        refused-first r rest (pair_in c) v z e ∙ sym (answered-goes-on before ((number_of r when t) ∷ rest) (pair_in c) v h)
        ∙ sym (answered-goes-on (judge_reasons c) (before ++ ((number_of r when t) ∷ rest)) (pair_in c) v accepted-clear)

    pub judged-done : (more : List Reason) (v : ℕ) → Clear more → done v ≡ answered (judge_reasons c ++ more) (pair_in c) v
    judged-done more v h = sym (answered-goes-on (judge_reasons c) more (pair_in c) v accepted-clear ∙ clear-done more (pair_in c) v h)

module _ {A : Type 0} (rs : List Reason) (p : ℕ × ℕ) (v : ℕ) (x y : A) where
  pub refused-leaves : (r : Refusal) → refused r ≡ answered rs p v → y ≡ cond (eqb (refusal rs) 0) x y
  refused-leaves r e = simp (ne_eqb (refusal rs) 0 (λ z. number-nonzero r (ap (λ (t : Told). t.number) e ∙ answered-number rs p v ∙ z)))

  pub done-leaves : (u : ℕ) → done u ≡ answered rs p v → x ≡ cond (eqb (refusal rs) 0) x y
  done-leaves u e = simp (eq-eqb (refusal rs) 0 (sym (ap (λ (t : Told). t.number) e ∙ answered-number rs p v)))
