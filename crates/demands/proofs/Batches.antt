-- Our rebuilding from batches meets demand 1: demand1-rebuild-batch, demand1-rebuild-file.
--   fault-matches, turn-matches     the reasons for refusing a batch, and batches in turn, are the words for them
--   turn-numbers                    which numbers batches in turn give
-- Assumes nothing.
use mathlib.Core.Path.{◌≡◌, refl}
use mathlib.Core.Logic.{◌⊎◌, inl, inr, ⊎_elim, ◌≢◌}
use mathlib.Core.Bool.{Bool, true, false, not, ◌&&◌, ◌||◌}
use mathlib.Core.List.{List, [], ◌∷◌, ◌++◌}
use Prim.Native.Nat.{ℕ, zero, suc, ◌*◌}
use native.Mathlib.Nat.{not-suc-le-zero}
use lib.Dec.{eqb, ltb}
use lib.ListN.{length}
use Rattle.codes.specs.Told.{Told, Reason}
use Rattle.codes.specs.Reasons.{numbered}
use Rattle.codes.specs.Judge.{pair_in}
use Rattle.codes.specs.declared.Code.{Code}
use Rattle.codes.proofs.Bools.{apart}
use Rattle.stripes.specs.Lists.{has, repeats, differ, within}
use Rattle.shares.specs.Fields.{code_record, node_record, stripe_at}
use Rattle.shares.specs.File.{below}
use Rattle.batches.specs.Batch.{help_kind, failed_in, helper_in, count_at, stripe_named, helpers_in, counts_in, stripes_named, faults, batch_reasons, batch_told, rebuilt_record, batch_leaves}
use Rattle.batches.specs.Whole.{batch_of, faults_from, records_from, whole_reasons, whole_told, whole_leaves}
use Rattle.demands.specs.Words.{Word}
use Rattle.demands.specs.Inputs.{Among, Outside}
use Rattle.demands.specs.Answer.{Tells}
use Rattle.demands.specs.Batches.{fault_words, turns_from, Demand1-rebuild-batch, Demand1-rebuild-file}
use Rattle.demands.proofs.Says.{Says, not-says, or-says, off-says, eqb-says}
use Rattle.demands.proofs.Inputs.{among-cons, among-uncons, lengths-says, outside-says, has-says, repeats-says, differ-says}
use Rattle.demands.proofs.Words.{Matches, end, step, numbers_of, unpaired}
use Rattle.demands.proofs.Answer.{answers, leaves}
use Rattle.demands.proofs.Files.{below-says, ltb-off, total-tells}

module _ (c : Code) (a : ℕ) (b : List ℕ) (other placed : Bool) {Other Off : Type 0} (so : Says other Other) (sp : Says (not placed) Off) where
  pub fault-matches : (rs : List Reason) (ws : List Word) → Matches rs ws → Matches (faults c a b other placed ++ rs) (fault_words c a b Other Off ++ ws)
  unfolding faults
  fault-matches rs ws m =
      step refl (below-says c.d (λ r. eqb (help_kind b r) 0x48) (λ r. help_kind b r ≢ 0x48) (λ r. not-says _ (eqb-says (help_kind b r) 0x48)))
      (λ _. step refl
      (off-says (within c a) (below c.d (λ r. within c (failed_in b r) && within c (helper_in b r))) (outside-says c a)
      (below-says c.d (λ r. within c (failed_in b r) && within c (helper_in b r)) (λ r. Outside c (failed_in b r) ⊎ Outside c (helper_in b r))
      (λ r. off-says (within c (failed_in b r)) (within c (helper_in b r)) (outside-says c (failed_in b r)) (outside-says c (helper_in b r)))))
      (λ _. step refl (or-says (has a (helpers_in c.d b)) (repeats (helpers_in c.d b)) (has-says a (helpers_in c.d b)) (repeats-says (helpers_in c.d b)))
      (λ _. step refl
      (or-says (not (below c.d (λ r. eqb (failed_in b r) a)) || differ (counts_in c.d b) || differ (stripes_named c.d b)) other
      (or-says (not (below c.d (λ r. eqb (failed_in b r) a)) || differ (counts_in c.d b)) (differ (stripes_named c.d b))
      (or-says (not (below c.d (λ r. eqb (failed_in b r) a))) (differ (counts_in c.d b))
      (below-says c.d (λ r. eqb (failed_in b r) a) (λ r. failed_in b r ≢ a) (λ r. not-says _ (eqb-says (failed_in b r) a)))
      (differ-says (counts_in c.d b)))
      (differ-says (stripes_named c.d b)))
      so)
      (λ _. step refl sp
      (λ _. m)))))

-- no further reason
never : Says false ⊥
never = (λ e. apart false e refl, λ z. absurd z)

pub demand1-rebuild-batch : Demand1-rebuild-batch batch_told batch_leaves
unfolding batch_told batch_leaves batch_reasons faults
demand1-rebuild-batch = record {
  answer = λ c a b o. answers c _ _ (λ x. x ≡ count_at b 0) (count_at b 0) refl refl
      (step refl (lengths-says (length b, c.d * 10) ((length o, 34) ∷ []))
      (λ _. fault-matches c a b false (ltb (stripe_named b 0) 1024) never (ltb-off (stripe_named b 0) 1024) [] [] end))
      (λ _. refl);
  output = λ c a b o. leaves (batch_reasons c a b o) (pair_in c) (count_at b 0) o (rebuilt_record c a b);
}

-- ---- one of two lists

module _ (P : ℕ → Type 0) where
  among-split : (xs ys : List ℕ) → Among P (xs ++ ys) → Among P xs ⊎ Among P ys
  among-split [] ys x = inr x
  among-split (k ∷ xs) ys x =
      ⊎_elim (λ p. inl (among-cons P k xs (inl p))) (λ y. ⊎_elim (λ z. inl (among-cons P k xs (inr z))) inr (among-split xs ys y)) (among-uncons P k (xs ++ ys) x)

  -- the last ones replaced
  among-last : (xs ys zs : List ℕ) → (Among P ys → Among P zs) → Among P (xs ++ ys) → Among P (xs ++ zs)
  among-last [] ys zs f x = f x
  among-last (k ∷ xs) ys zs f x = among-cons P k (xs ++ zs) (⊎_elim inl (λ y. inr (among-last xs ys zs f y)) (among-uncons P k (xs ++ ys) x))

-- ---- batches in turn

module _ (c : Code) (a : ℕ) (bs : List ℕ) where
  turn-matches : (i n : ℕ) → Matches (faults_from c a bs i n) (turns_from c a bs i n)
  unfolding faults_from
  turn-matches i zero = end
  turn-matches i (suc n) =
      let b = batch_of c.d bs i in
      fault-matches c a b (not (eqb (count_at b 0) (count_at bs 0))) (eqb (stripe_named b 0) i)
      (not-says _ (eqb-says (count_at b 0) (count_at bs 0))) (not-says _ (eqb-says (stripe_named b 0) i)) _ _ (turn-matches (suc i) n)

  turn-numbered : (i n : ℕ) → numbered (faults_from c a bs i n) ≡ true
  unfolding faults_from faults
  turn-numbered i zero = refl
  turn-numbered i (suc n) = turn-numbered (suc i) n

  turn-unpaired : (i n : ℕ) → unpaired (faults_from c a bs i n) ≡ true
  unfolding faults_from faults
  turn-unpaired i zero = refl
  turn-unpaired i (suc n) = turn-unpaired (suc i) n

  turn-numbers : (P : ℕ → Type 0) (i n : ℕ) → Among P (numbers_of (faults_from c a bs i n)) → Among P (1 ∷ 6 ∷ 7 ∷ 8 ∷ 10 ∷ [])
  unfolding faults_from faults
  turn-numbers P i zero x = absurd (not-suc-le-zero x.within)
  turn-numbers P i (suc n) x =
      ⊎_elim (λ y. y) (turn-numbers P (suc i) n) (among-split P (1 ∷ 6 ∷ 7 ∷ 8 ∷ 10 ∷ []) (numbers_of (faults_from c a bs (suc i) n)) x)

-- other numbers of the reasons, among which those given are
fewer : {c : Code} {ws : List Word} {ns : List ℕ} {Val : ℕ → Type 0} {t : Told} (ms : List ℕ)
    → (Among (λ n. t.number ≡ n) (0 ∷ ns) → Among (λ n. t.number ≡ n) (0 ∷ ms)) → Tells c ws ns Val t → Tells c ws ms Val t
fewer ms f x = record {
  decided = x.decided;
  only = f x.only;
  named = x.named;
  nothing = x.nothing;
  carried = x.carried;
  empty = x.empty;
}

pub demand1-rebuild-file : Demand1-rebuild-file whole_told whole_leaves
unfolding whole_told whole_leaves whole_reasons
demand1-rebuild-file = record {
  answer = λ c a t bs o. fewer (2 ∷ 3 ∷ 4 ∷ 5 ∷ 1 ∷ 6 ∷ 7 ∷ 8 ∷ 10 ∷ [])
      (among-last _ (0 ∷ 2 ∷ 3 ∷ 4 ∷ 5 ∷ []) (numbers_of (faults_from c a bs 0 t)) (1 ∷ 6 ∷ 7 ∷ 8 ∷ 10 ∷ []) (turn-numbers c a bs _ 0 t))
      (total-tells c t _ _ (λ x. x ≡ count_at bs 0) (count_at bs 0) (turn-numbered c a bs 0 t) (turn-unpaired c a bs 0 t)
      (step refl (lengths-says (length bs, t * (c.d * 10)) ((length o, stripe_at t) ∷ [])) (λ _. turn-matches c a bs 0 t)) (λ _. refl));
  output = λ c a t bs o. leaves (whole_reasons c a t bs o) (pair_in c) (count_at bs 0) o (code_record c ++ (node_record a t (count_at bs 0) ++ records_from c a bs 0 t));
}
