-- What the tests of the two operations tell, by the step at which they stop.
--   stops-length, goes_on       a length that is another, and both lengths as they must be
--   total-good                  an accepted stripe total
--   batch-front, batch-length, batch-on      one batch: refused for its code, for a length, and judged by its own faults
--   whole-front, whole-length, whole-on      a whole file likewise
--   batch-numbered, whole-numbered    each reason of the two operations has a number
-- Assumes nothing.
use mathlib.Core.Path.{◌≡◌, ◌∙◌, refl, sym, ap}
use mathlib.Core.Logic.{◌⊎◌, ⊎_elim}
use mathlib.Core.Bool.{Bool, true, false, not, ◌&&◌, ◌||◌, and-false}
use mathlib.Core.List.{List, ◌∷◌}
use Prim.Native.Nat.{ℕ, ◌*◌, ◌≤◌}
use borrow.Author.Tests.{eq-eqb, ne_eqb, leb-true, not-false}
use lib.Dec.{eqb, leb, ltb}
use lib.ListN.{length}
use Rattle.codes.specs.Told.{Told, Reason, ◌when◌, refused, done, answered}
use Rattle.codes.specs.Reasons.{Clear, numbered}
use Rattle.codes.specs.Judge.{sized, judge_reasons, judged, pair_in}
use Rattle.codes.specs.declared.Code.{Code}
use Rattle.codes.specs.declared.Refusal.{Refusal}
use Rattle.codes.specs.declared.Refusal.TheVariants.{Length}
use Rattle.codes.proofs.Bools.{by-test, apart, both, and_left, and_right}
use Rattle.codes.proofs.Rules.{judge-numbered}
use Rattle.codes.proofs.Told.{done-clear, answered-hand-on}
use Rattle.shares.specs.Fields.{stripe_at}
use Rattle.shares.specs.File.{totalled}
use Rattle.shares.specs.Total.{code_reasons}
use Rattle.batches.specs.Batch.{stripe_named, faults, batch_reasons}
use Rattle.batches.specs.Whole.{faults_from, whole_reasons}
use Rattle.batches.proofs.Bools.{and-stops, or-stops, or-goes-on}
use Rattle.batches.proofs.Ladder.{staged, by_length, by_after, numbered-parts}
use Rattle.batches.proofs.Turns.{faults-numbered, turns-numbered}

-- ---- the lengths of a run and of an output

module _ (p : ℕ × ℕ) (front : List Reason) (run size n full : ℕ) (after : List Reason) where
  abbrev Long : Bool
  Long = eqb run size && eqb n full

  abbrev pub Reasons : List Reason
  Reasons = staged p front Long after

  module _ (k : numbered front ≡ true) (good : done 0 ≡ answered front p 0) where
    none : Clear front
    none = done-clear front p 0 0 k good

    pub stops-length : (run ≡ size → ⊥) ⊎ (n ≡ full → ⊥) → refused Length ≡ answered Reasons p 0
    stops-length h =
        by_length p front Long after none
        (⊎_elim (λ f. sym (and-stops (eqb run size) (eqb n full) (ne_eqb run size f))) (λ f. ap (λ (x : Bool). eqb run size && x) (ne_eqb n full f) ∙ and-false (eqb run size)) h)

    pub goes_on : run ≡ size → n ≡ full → {t : Told} → t ≡ answered after p 0 → t ≡ answered Reasons p 0
    goes_on e f q = q ∙ by_after p front Long after none (both (eqb run size) (eqb n full) (eq-eqb run size e) (eq-eqb n full f))

  pub all-numbered : numbered front ≡ true → numbered after ≡ true → numbered Reasons ≡ true
  all-numbered k m = numbered-parts front ((5 when not Long) ∷ after) k m

-- ---- a code with a stripe total

pub total-numbered : (c : Code) (bad : Bool) → numbered (code_reasons c bad) ≡ true
unfolding code_reasons
total-numbered c bad = refl

pub total-good : (c : Code) (t : ℕ) → done 0 ≡ answered (code_reasons c (not (totalled t))) (pair_in c) 0 → (1 ≤ t) × (t ≤ 1024)
unfolding code_reasons
total-good c t e =
    let h = done-clear (code_reasons c (not (totalled t))) (pair_in c) 0 0 (total-numbered c (not (totalled t))) e in
    let s : not (sized c) ≡ false = by-test (not (sized c)) (λ x. apart (not (sized c) || not (totalled t)) (sym (or-stops (not (sized c)) (not (totalled t)) x)) h.1.0) (λ x. x) in
    let b : totalled t ≡ true = not-false (totalled t) (or-goes-on (not (sized c)) (not (totalled t)) s ∙ h.1.0) in
    (leb-true 1 t (and_left (leb 1 t) (leb t 1024) b), leb-true t 1024 (and_right (leb 1 t) (leb t 1024) b))

-- ---- one batch, and a whole file

module _ (c : Code) (a : ℕ) (b o : List ℕ) where
  abbrev pub batch_faults : List Reason
  batch_faults = faults c a b false (ltb (stripe_named b 0) 1024)

  abbrev BatchTold : Told → Type 0
  BatchTold t = t ≡ answered (batch_reasons c a b o) (pair_in c) 0

  pub batch-front : (r : Refusal) → refused r ≡ judged c → BatchTold (refused r)
  unfolding batch_reasons judged
  batch-front r e = answered-hand-on r (judge_reasons c) _ (pair_in c) 0 0 e

  module _ (good : done 0 ≡ judged c) where
    pub batch-length : (length b ≡ c.d * 10 → ⊥) ⊎ (length o ≡ 34 → ⊥) → BatchTold (refused Length)
    unfolding batch_reasons judged
    batch-length h = stops-length (pair_in c) (judge_reasons c) (length b) (c.d * 10) (length o) 34 batch_faults (judge-numbered c) good h

    pub batch-on : length b ≡ c.d * 10 → length o ≡ 34 → {t : Told} → t ≡ answered batch_faults (pair_in c) 0 → BatchTold t
    unfolding batch_reasons judged
    batch-on e f q = goes_on (pair_in c) (judge_reasons c) (length b) (c.d * 10) (length o) 34 batch_faults (judge-numbered c) good e f q

  pub batch-numbered : numbered (batch_reasons c a b o) ≡ true
  unfolding batch_reasons
  batch-numbered =
      all-numbered (pair_in c) (judge_reasons c) (length b) (c.d * 10) (length o) 34 batch_faults (judge-numbered c) (faults-numbered c a b false (ltb (stripe_named b 0) 1024))

module _ (c : Code) (a t : ℕ) (bs o : List ℕ) where
  abbrev Front : List Reason
  Front = code_reasons c (not (totalled t))

  abbrev WholeTold : Told → Type 0
  WholeTold u = u ≡ answered (whole_reasons c a t bs o) (pair_in c) 0

  pub whole-front : (r : Refusal) → refused r ≡ answered Front (pair_in c) 0 → WholeTold (refused r)
  unfolding whole_reasons
  whole-front r e = answered-hand-on r Front _ (pair_in c) 0 0 e

  module _ (good : done 0 ≡ answered Front (pair_in c) 0) where
    pub whole-length : (length bs ≡ t * (c.d * 10) → ⊥) ⊎ (length o ≡ stripe_at t → ⊥) → WholeTold (refused Length)
    unfolding whole_reasons
    whole-length h = stops-length (pair_in c) Front (length bs) (t * (c.d * 10)) (length o) (stripe_at t) (faults_from c a bs 0 t) (total-numbered c (not (totalled t))) good h

    pub whole-on : length bs ≡ t * (c.d * 10) → length o ≡ stripe_at t → {u : Told} → u ≡ answered (faults_from c a bs 0 t) (pair_in c) 0 → WholeTold u
    unfolding whole_reasons
    whole-on e f q = goes_on (pair_in c) Front (length bs) (t * (c.d * 10)) (length o) (stripe_at t) (faults_from c a bs 0 t) (total-numbered c (not (totalled t))) good e f q

  pub whole-numbered : numbered (whole_reasons c a t bs o) ≡ true
  unfolding whole_reasons
  whole-numbered =
      all-numbered (pair_in c) Front (length bs) (t * (c.d * 10)) (length o) (stripe_at t) (faults_from c a bs 0 t) (total-numbered c (not (totalled t))) (turns-numbered c a bs 0 t)
