-- An operation whose tests are the words for them meets demand 1. The judge does, and a judge that refuses every code does not.
--   tells             what an operation tells, by its reasons
--   answers           the same of an operation on a code, by its own reasons after the judge's
--   leaves            what it leaves in a lent run
--   demand1-judge     demand 1 of our judge
--   refuses-all       whoever refuses every code is no judge
-- Assumes nothing.
use mathlib.Core.Path.{◌≡◌, ◌∙◌, refl, sym, ap}
use mathlib.Core.Logic.{◌≢◌}
use mathlib.Core.Bool.{true, cond}
use mathlib.Core.List.{List, [], ◌∷◌, ◌++◌}
use Prim.Native.Nat.{ℕ}
use lib.Dec.{eqb}
use borrow.Author.Tests.{eq-eqb, ne_eqb}
use Rattle.codes.specs.Told.{Told, Reason, refusal, tell, answered}
use Rattle.codes.specs.Reasons.{numbered}
use Rattle.codes.specs.First.{first}
use Rattle.codes.specs.Judge.{known, sized, mark, marks, pair_first, pair_second, unused_at, pointed, pair_in, judge_reasons, judged}
use Rattle.codes.specs.declared.Code.{Code}
use Rattle.codes.proofs.Told.{answered-number, answered-pair, answered-value, answered-four}
use Rattle.demands.specs.Words.{Word, None, Decided}
use Rattle.demands.specs.Judge.{Names, judge_words}
use Rattle.demands.specs.Answer.{Tells, Answers, Judges, Leaves}
use Rattle.demands.proofs.Words.{Matches, end, decided, numbers_of, numbers, unpaired, no-four}
use Rattle.demands.proofs.Judge.{judge-matches, judge-names}

answered-done : (rs : List Reason) (p : ℕ × ℕ) (v : ℕ) → refusal rs ≡ 0 → (answered rs p v).value ≡ v
unfolding answered tell
answered-done rs p v e = ap (λ (n : ℕ). (tell n p v).value) e

module _ (c : Code) (rs : List Reason) (ws : List Word) (Val : ℕ → Type 0) (v : ℕ) where
  pub tells : numbered rs ≡ true → (refusal rs ≡ 4 → (i j : ℕ) → i ≡ (pair_in c).0 → j ≡ (pair_in c).1 → Names c i j) → Matches rs ws → (None ws → Val v)
      → Tells c ws (numbers_of rs) Val (answered rs (pair_in c) v)
  tells k names m f =
      let t = answered rs (pair_in c) v in
      let n : t.number ≡ refusal rs = answered-number rs (pair_in c) v in
      let d : Decided ws (refusal rs) = decided k m in
      record {
        decided = rw n d;
        only = rw n (numbers rs);
        named = λ e. let g = answered-four rs (pair_in c) v (sym n ∙ e) in names (sym n ∙ e) _ _ g.0 g.1;
        nothing = λ z. answered-pair rs (pair_in c) v (λ e. z (n ∙ e));
        carried = λ e. rw (answered-done rs (pair_in c) v (sym n ∙ e)) (f (d.done.0 (sym n ∙ e)));
        empty = λ z. answered-value rs (pair_in c) v (λ e. z (n ∙ e));
      }

module _ (c : Code) (rs : List Reason) (ws : List Word) (Val : ℕ → Type 0) (v : ℕ) where
  pub answers : numbered rs ≡ true → unpaired rs ≡ true → Matches rs ws → (None (judge_words c ++ ws) → Val v)
      → Answers c ws (numbers_of rs) Val (answered (judge_reasons c ++ rs) (pair_in c) v)
  unfolding judge_reasons
  answers k u m f = tells c (judge_reasons c ++ rs) (judge_words c ++ ws) Val v k (judge-names c rs (no-four rs u)) (judge-matches c rs ws m) f

pub leaves : (rs : List Reason) (p : ℕ × ℕ) (v : ℕ) (before whole : List ℕ)
    → Leaves (answered rs p v).number before whole (cond (eqb (refusal rs) 0) whole before)
leaves rs p v before whole =
    let n = answered-number rs p v in
    record {
      kept = λ z. simp (ne_eqb (refusal rs) 0 (λ e. z (n ∙ e)));
      written = λ e. simp (eq-eqb (refusal rs) 0 (sym n ∙ e));
    }

pub demand1-judge : Judges judged
unfolding judged judge_reasons
demand1-judge c = answers c [] [] (λ v. v ≡ 0) 0 refl refl end (λ _. refl)

-- a judge that refuses every code: it refuses document 01's smallest code

smallest : Code
smallest = record { kind = 1; n = 2; k = 1; d = 1; points = record { 0 = 0 } ∷ record { 0 = 1 } ∷ [] }

taken : (judged smallest).number ≡ 0
unfolding smallest judged judge_reasons answered tell refusal known sized pointed marks mark pair_first pair_second unused_at first
taken = refl

pub refuses-all : (judge : Code → Told) → ((c : Code) → (judge c).number ≢ 0) → Judges judge → ⊥
refuses-all judge r h = r smallest ((h smallest).decided.done.1 ((demand1-judge smallest).decided.done.0 taken))
