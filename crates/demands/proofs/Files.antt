-- Our operations on share files and books meet demand 1: demand1-judge-file, demand1-take-slip, demand1-cut, demand1-answer-for.
--   below-says, total-says, stripe-says      the tests of a share file and the words for them
--   bears, file_node, file_stripes      what the judge names: the node and the stripe total that its promise cites
--   judge-file-meets  and so does any judge that keeps our judge's promise
--   file-tells        what an operation on a share file tells, by its own reasons after the file's
--   total-tells       what an operation on a code and a stripe total tells, by its own reasons after theirs
-- Assumes nothing.
use mathlib.Core.Path.{◌≡◌, ◌∙◌, refl, sym, ap, subst}
use mathlib.Core.Logic.{◌⊎◌, inl, inr, ◌≢◌}
use mathlib.Core.Bool.{Bool, true, false, not, ◌&&◌, ◌||◌}
use mathlib.Core.List.{List, [], ◌∷◌, ◌++◌}
use Prim.Native.Nat.{ℕ, zero, suc, ◌+◌, ◌*◌, ◌≤◌}
use native.Mathlib.Nat.{not-suc-le-zero}
use native.Mathlib.Omega.{arith}
use borrow.Author.Tests.{eqb-true, eqb-false, eq-eqb, ne_eqb, ltb-false, le-ltb, not-true}
use lib.Dec.{eqb, leb, ltb}
use lib.ListN.{length, get_or}
use Rattle.records.specs.Kinds.{body_of}
use Rattle.records.specs.Numbers.{number_at}
use Rattle.records.specs.Reading.{whole, whole_as}
use Rattle.records.proofs.Whole.{stands, is_whole, same}
use Rattle.codes.specs.Told.{Told, Reason, ◌when◌, refusal, answered}
use Rattle.codes.specs.Reasons.{numbered}
use Rattle.codes.specs.Rules.{Sized}
use Rattle.codes.specs.Sizes.{alpha, bytes}
use Rattle.codes.specs.Judge.{sized, judge_reasons, pair_in}
use Rattle.codes.specs.declared.Code.{Code}
use Rattle.codes.proofs.Bools.{apart, by-test, and_left, and_right}
use Rattle.codes.proofs.Told.{refusal-skip, refusal-stop, answered-number}
use Rattle.shares.specs.Fields.{code_in, node_in, stripes_in, count_in, stripe_at}
use Rattle.shares.specs.File.{below, zero_past, spare, stripe_good, totalled, node_reasons, file_reasons, file_told, given, say_filed, node_told, stripes_told}
use Rattle.shares.specs.File as share-file
use Rattle.std.specs.Prelude.{Result}
use Rattle.codes.specs.declared.Refusal.{Refusal}
use Rattle.shares.specs.declared.Filed.{Filed}
use Rattle.shares.specs.Slip.{slip_number, slip_stripe, slip_index, slip_faults, slip_reasons, slip_told, left_by, taken_in, slip_leaves}
use Rattle.shares.specs.Total.{code_reasons}
use Rattle.shares.specs.Afresh.{afresh}
use Rattle.books.specs.Cut.{cut_reasons, cut_told, cut_leaves}
use Rattle.books.specs.Answer.{answers_from, answer_reasons, answer_told, answer_leaves}
use Rattle.demands.specs.Words.{Word, None}
use Rattle.demands.specs.Judge.{code_words}
use Rattle.demands.specs.Answer.{Tells}
use Rattle.demands.specs.Files.{Some, Stands, TotalOff, Beyond, StripeOff, node_words, file_words, file_numbers, slip_words, cut_words, answer_words, Bears, Demand1-judge-file, Demand1-take-slip, Demand1-cut, Demand1-answer-for}
use Rattle.demands.proofs.Says.{Says, says-by, not-says, or-says, off-says, eqb-says, leb-off}
use Rattle.demands.proofs.Inputs.{lengths-says, outside-says}
use Rattle.demands.proofs.Words.{Matches, end, step, numbers_of, unpaired, no-four}
use Rattle.demands.proofs.Judge.{size-says, code-matches, code-names, judge-matches, judge-names}
use Rattle.demands.proofs.Answer.{tells, leaves}

-- ---- tests

pub ltb-off : (a b : ℕ) → Says (not (ltb a b)) (b ≤ a)
ltb-off a b = (λ e. ltb-false a b (not-true _ e), λ h. ap not (le-ltb a b h))

nor-says : (a b : Bool) {P Q : Type 0} → Says (not a) P → Says (not b) Q → Says (not (a || b)) (P × Q)
nor-says true b s t = (λ e. apart false e refl, λ h. s.1 h.0)
nor-says false b s t = (λ e. (s.0 refl, t.0 e), λ h. t.1 h.1)

some_more : (n : ℕ) (P : ℕ → Type 0) → Some n P ⊎ P n → Some (suc n) P
some_more n P (inl x) = record { place = x.place; within = omega arith; is = x.is }
some_more n P (inr p) = record { place = n; within = omega arith; is = p }

some-less : (n : ℕ) (P : ℕ → Type 0) → Some (suc n) P → Some n P ⊎ P n
some-less n P x =
    by-test (eqb x.place n) (λ e. inr (subst P (eqb-true x.place n e) x.is))
    (λ e. inl (record { place = x.place; within = omega (arith, x.within, eqb-false x.place n e); is = x.is }))

pub below-says : (n : ℕ) (p : ℕ → Bool) (P : ℕ → Type 0) → ((i : ℕ) → Says (not (p i)) (P i)) → Says (not (below n p)) (Some n P)
unfolding below
below-says zero p P s = (λ e. apart false e refl, λ x. absurd (not-suc-le-zero x.within))
below-says (suc n) p P s = says-by (some_more n P) (some-less n P) (off-says (below n p) (p n) (below-says n p P s) (s n))

module _ (s : List ℕ) (place kind : ℕ) where
  known : (body_of kind ≡ 0 → ⊥) → Says (whole_as s place kind) (Stands s place kind (body_of kind))
  known n = (
    λ e. let k = eqb-true (get_or s place 0) kind (and_right (whole s place) (eqb (get_or s place 0) kind) e) in
        let w = is_whole s place (and_left (whole s place) (eqb (get_or s place 0) kind) e) in
        (omega (arith, w.1.1, ap body_of k), k),
    λ h. same s place kind (stands s place (omega arith) (λ z. n (sym (ap body_of h.1) ∙ z)) (omega (arith, ap body_of h.1))) h.1,
  )

module _ (s : List ℕ) (place : ℕ) where
  code-says : Says (not (whole_as s place 0x43)) (Stands s place 0x43 36 → ⊥)
  unfolding body_of
  code-says = not-says (whole_as s place 0x43) (known s place 0x43 (λ z. omega (arith, z)))

  node-says : Says (not (whole_as s place 0x4E)) (Stands s place 0x4E 7 → ⊥)
  unfolding body_of
  node-says = not-says (whole_as s place 0x4E) (known s place 0x4E (λ z. omega (arith, z)))

  data-says : Says (not (whole_as s place 0x44)) (Stands s place 0x44 33 → ⊥)
  unfolding body_of
  data-says = not-says (whole_as s place 0x44) (known s place 0x44 (λ z. omega (arith, z)))

pub total-says : (t : ℕ) → Says (not (totalled t)) (TotalOff t)
total-says t = off-says (leb 1 t) (leb t 1024) (leb-off 1 t) (leb-off t 1024)

module _ (a : ℕ) (s : List ℕ) where
  spare-says : (at : ℕ) → Says (not (spare a s at)) (Some 31 (Beyond a s at))
  unfolding spare
  spare-says at =
      below-says 31 (zero_past a s at) (Beyond a s at)
      (λ j. nor-says (ltb j a) (eqb (get_or s (at + j) 0) 0) (ltb-off j a) (not-says _ (eqb-says (get_or s (at + j) 0) 0)))

  stripe-says : (i : ℕ) → Says (not (stripe_good a s i)) (StripeOff a s i)
  unfolding stripe_good
  stripe-says i =
      off-says (whole_as s (stripe_at i) 0x44 && eqb (number_at 2 s (stripe_at i + 1)) i) (spare a s (stripe_at i + 3))
      (off-says (whole_as s (stripe_at i) 0x44) (eqb (number_at 2 s (stripe_at i + 1)) i) (data-says s (stripe_at i)) (not-says _ (eqb-says (number_at 2 s (stripe_at i + 1)) i)))
      (spare-says (stripe_at i + 3))

-- ---- a share file's reasons, and what an operation on one tells

-- a reason before those that refusal 4 may come from
past : (n : ℕ) (t : Bool) (rs : List Reason) → n ≢ 4 → refusal ((n when t) ∷ rs) ≡ 4 → refusal rs ≡ 4
past n t rs z e = by-test t (λ x. absurd (z (sym (refusal-stop n rs x) ∙ e))) (λ x. sym (refusal-skip n rs x) ∙ e)

module _ (s : List ℕ) (more : List Reason) (ws : List Word) where
  node-matches : Matches more ws → Matches (node_reasons s ++ more) (node_words s ++ ws)
  unfolding node_reasons
  node-matches m =
      step refl (node-says s 37)
      (λ _. step refl (total-says (stripes_in s))
      (λ _. step refl (outside-says (code_in s) (node_in s))
      (λ _. step refl (below-says (stripes_in s) (stripe_good (alpha (code_in s)) s) (StripeOff (alpha (code_in s)) s) (stripe-says (alpha (code_in s)) s))
      (λ _. step refl (not-says _ (eqb-says (length s) (stripe_at (stripes_in s))))
      (λ _. m)))))

  file-matches : Matches more ws → Matches (file_reasons s ++ more) (file_words s ++ ws)
  unfolding file_reasons judge_reasons
  file-matches m = step refl (code-says s 0) (λ _. judge-matches (code_in s) (node_reasons s ++ more) (node_words s ++ ws) (node-matches m))

  pub file-tells : (Val : ℕ → Type 0) (v : ℕ) → numbered more ≡ true → unpaired more ≡ true → Matches more ws → (None (file_words s ++ ws) → Val v)
      → Tells (code_in s) (file_words s ++ ws) (file_numbers (numbers_of more)) Val (answered (file_reasons s ++ more) (pair_in (code_in s)) v)
  unfolding file_reasons judge_reasons node_reasons
  file-tells Val v k u m f =
      tells (code_in s) (file_reasons s ++ more) (file_words s ++ ws) Val v k
      (λ e. judge-names (code_in s) (node_reasons s ++ more) (no-four (node_reasons s ++ more) u) (past 1 _ _ (λ z. omega arith) e)) (file-matches m) f

bears : (rs : List Reason) (p : ℕ × ℕ) (v own : ℕ) → Bears (answered rs p v).number own (given rs own)
unfolding given
bears rs p v own =
    let n = answered-number rs p v in
    record {
      accepted = λ e. simp (eq-eqb (refusal rs) 0 (sym n ∙ e));
      refused = λ z. simp (ne_eqb (refusal rs) 0 (λ e. z (n ∙ e)));
    }

abbrev pub file_node : List ℕ → ℕ
file_node s = given (file_reasons s) (node_in s)

abbrev pub file_stripes : List ℕ → ℕ
file_stripes s = given (file_reasons s) (stripes_in s)

pub demand1-judge-file : Demand1-judge-file file_told file_node file_stripes
unfolding file_told file_reasons judge_reasons node_reasons
demand1-judge-file = record {
  answer = λ s. file-tells s [] [] (λ x. x ≡ count_in s) (count_in s) refl refl end (λ _. refl);
  noded = λ s. bears (file_reasons s) (pair_in (code_in s)) (count_in s) (node_in s);
  striped = λ s. bears (file_reasons s) (pair_in (code_in s)) (count_in s) (stripes_in s);
}

-- the promise fixes the answer, and the node and the total that it names
module _ (judge : List ℕ → Result Filed Refusal) (keeps : (s : List ℕ) → share-file.Says (file_reasons s) s (judge s)) where
  said : (s : List ℕ) → file_told s ≡ say_filed (judge s)
  unfolding file_told
  said s = sym (keeps s).answer

  pub judge-file-meets : Demand1-judge-file (λ s. say_filed (judge s)) (λ s. node_told (judge s)) (λ s. stripes_told (judge s))
  judge-file-meets = record {
    answer = λ s. subst (Tells (code_in s) (file_words s) (file_numbers []) (λ x. x ≡ count_in s)) (said s) (demand1-judge-file.answer s);
    noded = λ s. subst (λ (t : Told). Bears t.number (node_in s) (node_told (judge s))) (said s)
        (subst (Bears (file_told s).number (node_in s)) (sym (keeps s).node) (demand1-judge-file.noded s));
    striped = λ s. subst (λ (t : Told). Bears t.number (stripes_in s) (stripes_told (judge s))) (said s)
        (subst (Bears (file_told s).number (stripes_in s)) (sym (keeps s).stripes) (demand1-judge-file.striped s));
  }

pub demand1-take-slip : Demand1-take-slip slip_told slip_leaves
unfolding slip_told slip_leaves slip_reasons slip_faults left_by
demand1-take-slip = record {
  answer = λ s p. file-tells s _ (slip_words s p) (λ x. x ≡ count_in s + 1) (count_in s + 1) refl refl
      (step refl (off-says (eqb (length p) 10) (eqb (get_or p 0 0) 0x50) (not-says _ (eqb-says (length p) 10)) (not-says _ (eqb-says (get_or p 0 0) 0x50)))
      (λ _. step refl (not-says _ (eqb-says (slip_number p) (count_in s + 1)))
      (λ _. step refl (off-says (ltb (slip_stripe p) (stripes_in s)) (ltb (slip_index p) (bytes (code_in s))) (ltb-off _ _) (ltb-off _ _))
      (λ _. end))))
      (λ _. refl);
  file = λ s p. leaves (slip_reasons s p) (pair_in (code_in s)) (count_in s + 1) s (taken_in s p);
}

pub demand1-answer-for : Demand1-answer-for answer_told answer_leaves
unfolding answer_told answer_leaves answer_reasons left_by
demand1-answer-for = record {
  answer = λ s f o. file-tells s _ (answer_words s f o) (λ x. x ≡ 0) 0 refl refl
      (step refl (lengths-says (length o, stripes_in s * 10) [])
      (λ _. step refl (outside-says (code_in s) f)
      (λ _. step refl (eqb-says f (node_in s))
      (λ _. end))))
      (λ _. refl);
  output = λ s f o. leaves (answer_reasons s f o) (pair_in (code_in s)) 0 o (answers_from (code_in s) s f 0 (stripes_in s));
}

-- ---- a code and a stripe total

module _ (c : Code) (t : ℕ) where
  size-off : Says (not (sized c) || not (totalled t)) ((Sized c → ⊥) ⊎ TotalOff t)
  size-off = or-says (not (sized c)) (not (totalled t)) (size-says c) (total-says t)

  no_size : (a b : Bool) → (a || b) ≡ false → a ≡ false
  no_size true b e = e
  no_size false b e = refl

  pub total-tells : (more : List Reason) (ws : List Word) (Val : ℕ → Type 0) (v : ℕ) → numbered more ≡ true → unpaired more ≡ true → Matches more ws
      → (None (code_words c ((Sized c → ⊥) ⊎ TotalOff t) ++ ws) → Val v)
      → Tells c (code_words c ((Sized c → ⊥) ⊎ TotalOff t) ++ ws) (2 ∷ 3 ∷ 4 ∷ numbers_of more) Val (answered (code_reasons c (not (totalled t)) ++ more) (pair_in c) v)
  unfolding code_reasons
  total-tells more ws Val v k u m f =
      tells c (code_reasons c (not (totalled t)) ++ more) (code_words c ((Sized c → ⊥) ⊎ TotalOff t) ++ ws) Val v k
      (code-names c (not (sized c) || not (totalled t)) size-off (no_size (not (sized c)) (not (totalled t))) more (no-four more u))
      (code-matches c (not (sized c) || not (totalled t)) size-off (no_size (not (sized c)) (not (totalled t))) more ws m) f

pub demand1-cut : Demand1-cut cut_told cut_leaves
unfolding cut_told cut_leaves cut_reasons left_by
demand1-cut = record {
  answer = λ c v t book o. total-tells c t _ (cut_words c v t book o) (λ x. x ≡ 0) 0 refl refl
      (step refl (lengths-says (length book, t * bytes c) ((length o, stripe_at t) ∷ []))
      (λ _. step refl (outside-says c v)
      (λ _. end)))
      (λ _. refl);
  output = λ c v t book o. leaves (cut_reasons c v t book o) (pair_in c) 0 o (afresh c v t 0 book);
}
