-- A whole file rebuilt from the definition's H records of d different other stations for each stripe: the share file made afresh, at their count.
--   total-clear       an accepted code and a stripe total within its rule
--   rebuild-fresh     what is told, and what is given
-- Assumes nothing.
use mathlib.Core.Path.{◌≡◌, ◌∙◌, refl, sym, ap, ap₂, subst}
use mathlib.Core.Logic.{◌≢◌}
use mathlib.Core.Bool.{Bool, true, false, not}
use mathlib.Core.List.{List, ◌++◌}
use Prim.Native.Nat.{ℕ, zero, suc, ◌+◌, ◌*◌, ◌<◌, ◌≤◌}
use native.Mathlib.Omega.{arith}
use borrow.Author.Tests.{eq-eqb, le-leb}
use lib.ListN.{length, get_or}
use Rattle.codes.specs.Told.{Reason, done, refusal}
use Rattle.codes.specs.Reasons.{Clear}
use Rattle.codes.specs.Rules.{Rules, Chosen}
use Rattle.codes.specs.Judge.{judge_reasons, pair_in}
use Rattle.codes.specs.Share.{share, symbol_for}
use Rattle.codes.specs.declared.Code.{Code}
use Rattle.codes.proofs.Bools.{both}
use Rattle.codes.proofs.Told.{clear, clear-done}
use Rattle.stripes.specs.Lists.{within}
use Rattle.shares.specs.Fields.{code_record, node_record, stripe_record, stripe_at}
use Rattle.shares.specs.File.{totalled}
use Rattle.shares.specs.Total.{code_reasons}
use Rattle.shares.specs.Afresh.{stripe_of, stripes_from, afresh}
use Rattle.shares.proofs.Accepted.{clear-append, code-clear}
use Rattle.batches.specs.Batch.{count_at, rebuilt_record}
use Rattle.batches.specs.Whole.{batch_of, turn_faults, faults_from, records_from, whole_reasons, whole_told, whole_leaves}
use Rattle.demands.specs.History.{joined}
use Rattle.demands.proofs.Joined.{joined-whole, joined-part, joined-byte, number_same}
use Rattle.demands.proofs.Helpers
use Rattle.demands.proofs.HonestBatch

pub total-clear : (c : Code) (bad : Bool) → Rules c → bad ≡ false → Clear (code_reasons c bad)
unfolding code_reasons judge_reasons
total-clear c bad R e = let h = code-clear c R in (h.0, (Helpers.neither _ bad h.1.0 e, (h.1.1.0, tt)))

module _ {c : Code} (R : Rules c) (f t m : ℕ) (book : List ℕ) (few : 1 ≤ t) (many : t ≤ 1024) (first : 1 ≤ f) (last : f ≤ c.n) (counted : m < 4294967296)
    (hs : ℕ → List ℕ) (chosen : (i : ℕ) → i < t → Chosen c.n c.d (hs i)) (others : (i r : ℕ) → i < t → r < c.d → get_or (hs i) r 0 ≢ f) where
  -- the symbol of the helper r for the stripe i
  abbrev Symbol : ℕ → ℕ → ℕ
  Symbol i r = (symbol_for c f (share c (get_or (hs i) r 0) (stripe_of c book i))).val

  abbrev Batch : ℕ → List ℕ
  Batch i = Helpers.Records c f m i (hs i) (Symbol i)

  abbrev pub Batches : List ℕ
  Batches = joined Batch 0 t

  known : within c f ≡ true
  known = both _ _ (le-leb 1 f first) (le-leb f c.n last)

  some : 0 < c.d
  some = HonestBatch.some-helpers R

  batch-long : (i : ℕ) → i < t → length (Batch i) ≡ c.d * 10
  batch-long i h = Helpers.records-long c f m i (hs i) (Symbol i)

  batch-is : (i : ℕ) → i < t → batch_of c.d Batches i ≡ Batch i
  batch-is i h = joined-part Batch (c.d * 10) t batch-long i h

  first_count : count_at Batches 0 ≡ m
  first_count =
      number_same 4 Batches (Batch 0) 3 3
      (λ k h. let e : 3 + k ≡ 0 * (c.d * 10) + (3 + k) = omega arith in
      ap (λ (a : ℕ). get_or Batches a 0) e ∙ joined-byte Batch (c.d * 10) t batch-long 0 (3 + k) (omega arith) (omega (arith, some)))
      ∙ Helpers.count-said c f m 0 (hs 0) (Symbol 0) counted 0 some

  -- ---- nothing is at fault

  abbrev Faults : ℕ → List ℕ → List Reason
  Faults i b = turn_faults c f b (count_at Batches 0) i

  batch-clear : (i : ℕ) → i < t → Clear (Faults i (batch_of c.d Batches i))
  batch-clear i h =
      subst (λ (b : List ℕ). Clear (Faults i b)) (sym (batch-is i h))
      (Helpers.batch-clear c f m i (hs i) (Symbol i) known (chosen i h) (λ r l. others i r h l) counted (omega arith) _ _
      (ap not (eq-eqb _ _ (Helpers.count-said c f m i (hs i) (Symbol i) counted 0 some ∙ sym first_count)))
      (eq-eqb _ _ (Helpers.stripe-said c f m i (hs i) (Symbol i) (omega arith) 0 some)))

  batches-clear : (i n : ℕ) → i + n ≤ t → Clear (faults_from c f Batches i n)
  unfolding faults_from
  batches-clear i zero h = tt
  batches-clear i (suc n) h = clear-append (Faults i (batch_of c.d Batches i)) (faults_from c f Batches (suc i) n) (batch-clear i (omega arith)) (batches-clear (suc i) n (omega arith))

  whole-clear : (o : List ℕ) → length o ≡ stripe_at t → Clear (whole_reasons c f t Batches o)
  unfolding whole_reasons
  whole-clear o e =
      clear-append (code_reasons c (not (totalled t))) _
      (total-clear c (not (totalled t)) R (ap not (both _ _ (le-leb 1 t few) (le-leb t 1024 many))))
      (ap not (both _ _ (eq-eqb _ _ (joined-whole Batch (c.d * 10) t batch-long)) (eq-eqb _ _ e)), batches-clear 0 t (omega arith))

  -- ---- what is given

  record_is : (i : ℕ) → i < t → rebuilt_record c f (Batch i) ≡ stripe_record i (share c f (stripe_of c book i))
  record_is i h = HonestBatch.record_is R f m i (hs i) (stripe_of c book i) (omega arith) (chosen i h)

  records-are : (i n : ℕ) → i + n ≤ t → records_from c f Batches i n ≡ stripes_from c f book i n
  unfolding records_from stripes_from
  records-are i zero h = refl
  records-are i (suc n) h =
      ap₂ (λ (a b : List ℕ). a ++ b) (ap (rebuilt_record c f) (batch-is i (omega arith)) ∙ record_is i (omega arith)) (records-are (suc i) n (omega arith))

  module _ (o : List ℕ) (room : length o ≡ stripe_at t) where
    told : whole_told c f t Batches o ≡ done m
    unfolding whole_told
    told = clear-done (whole_reasons c f t Batches o) (pair_in c) (count_at Batches 0) (whole-clear o room) ∙ ap done first_count

    given : whole_leaves c f t Batches o ≡ afresh c f t m book
    unfolding whole_leaves afresh
    given =
        rw (eq-eqb (refusal (whole_reasons c f t Batches o)) 0 (clear (whole_reasons c f t Batches o) (whole-clear o room)))
        (ap₂ (λ (k : ℕ) (l : List ℕ). code_record c ++ (node_record f t k ++ l)) first_count (records-are 0 t (omega arith)))

    pub rebuild-fresh : (whole_told c f t Batches o ≡ done m) × (whole_leaves c f t Batches o ≡ afresh c f t m book)
    rebuild-fresh = (told, given)
