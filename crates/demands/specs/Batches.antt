-- Demand 1 of rebuilding from batches of H records: one stripe, and a whole file.
--   fault_words c a b Other Off    the reasons for refusing a batch b of d records for the asked node a, in order: 1, 6, 7, 8, 10;
--                                 Other is a further reason for 8, and Off says that the stripe is not where it belongs
--   turn_words c a b m i           those of the batch i of a file with the count m
--   turns_from c a bs i n          those of n batches in turn, from the batch i on: the first faulty one decides
--   Demand1-rebuild-batch, Demand1-rebuild-file  demand 1 of each
-- Assumes nothing.
use Rattle.std.specs.Prelude.{◌≡◌, ◌⊎◌, ◌≢◌, List, [], ◌∷◌, ◌++◌, ℕ, zero, suc, ◌*◌, ◌≤◌, length}
use Rattle.codes.specs.Told.{Told}
use Rattle.codes.specs.Rules.{Sized}
use Rattle.codes.specs.declared.Code.{Code}
use Rattle.shares.specs.Fields.{code_record, node_record, stripe_at}
use Rattle.batches.specs.Batch.{help_kind, failed_in, helper_in, count_at, stripe_named, helpers_in, counts_in, stripes_named, rebuilt_record}
use Rattle.batches.specs.Whole.{batch_of, records_from}
use Rattle.demands.specs.Words.{Word, ◌because◌}
use Rattle.demands.specs.Inputs.{Among, LengthsOff, Outside, Twice, Differing}
use Rattle.demands.specs.Judge.{code_words}
use Rattle.demands.specs.Answer.{Tells, Answers, Leaves}
use Rattle.demands.specs.Files.{Some, TotalOff}

abbrev pub fault_words : Code → ℕ → List ℕ → Type 0 → Type 0 → List Word
fault_words c a b Other Off =
    (1 because Some c.d (λ r. help_kind b r ≢ 0x48))
    ∷ (6 because (Outside c a ⊎ Some c.d (λ r. Outside c (failed_in b r) ⊎ Outside c (helper_in b r))))
    ∷ (7 because (Among (λ h. a ≡ h) (helpers_in c.d b) ⊎ Twice (helpers_in c.d b)))
    ∷ (8 because (((Some c.d (λ r. failed_in b r ≢ a) ⊎ Differing (counts_in c.d b)) ⊎ Differing (stripes_named c.d b)) ⊎ Other))
    ∷ (10 because Off)
    ∷ []

abbrev pub turn_words : Code → ℕ → List ℕ → ℕ → ℕ → List Word
turn_words c a b m i = fault_words c a b (count_at b 0 ≢ m) (stripe_named b 0 ≢ i)

abbrev pub turns_from : Code → ℕ → List ℕ → ℕ → ℕ → List Word
turns_from c a bs i zero = []
turns_from c a bs i (suc n) = turn_words c a (batch_of c.d bs i) (count_at bs 0) i ++ turns_from c a bs (suc i) n

pub record Demand1-rebuild-batch (tells : Code → ℕ → List ℕ → List ℕ → Told) (leaves : Code → ℕ → List ℕ → List ℕ → List ℕ) : Type 0 where
  pub answer : (c : Code) (a : ℕ) (b o : List ℕ)
      → Answers c ((5 because LengthsOff ((length b, c.d * 10) ∷ (length o, 34) ∷ [])) ∷ fault_words c a b ⊥ (1024 ≤ stripe_named b 0))
      (5 ∷ 1 ∷ 6 ∷ 7 ∷ 8 ∷ 10 ∷ []) (λ x. x ≡ count_at b 0) (tells c a b o)
  pub output : (c : Code) (a : ℕ) (b o : List ℕ) → Leaves (tells c a b o).number o (rebuilt_record c a b) (leaves c a b o)

pub record Demand1-rebuild-file (tells : Code → ℕ → ℕ → List ℕ → List ℕ → Told) (leaves : Code → ℕ → ℕ → List ℕ → List ℕ → List ℕ) : Type 0 where
  pub answer : (c : Code) (a t : ℕ) (bs o : List ℕ)
      → Tells c (code_words c ((Sized c → ⊥) ⊎ TotalOff t) ++ ((5 because LengthsOff ((length bs, t * (c.d * 10)) ∷ (length o, stripe_at t) ∷ [])) ∷ turns_from c a bs 0 t))
      (2 ∷ 3 ∷ 4 ∷ 5 ∷ 1 ∷ 6 ∷ 7 ∷ 8 ∷ 10 ∷ []) (λ x. x ≡ count_at bs 0) (tells c a t bs o)
  pub output : (c : Code) (a t : ℕ) (bs o : List ℕ)
      → Leaves (tells c a t bs o).number o (code_record c ++ (node_record a t (count_at bs 0) ++ records_from c a bs 0 t)) (leaves c a t bs o)
