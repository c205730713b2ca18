-- The ladders of cutting a book and of answering for a failed node: each law is one answer.
-- Assumes nothing.
use mathlib.Core.Path.{◌≡◌, ◌∙◌, refl, sym, ap}
use mathlib.Core.Bool.{Bool, true, false, not, ◌&&◌, ◌||◌, and-false}
use mathlib.Core.List.{List}
use Prim.Native.Nat.{ℕ, ◌*◌, ◌≤◌}
use native.Mathlib.Omega.{arith}
use lib.Dec.{eqb, leb}
use lib.ListN.{length}
use borrow.Author.Tests.{eq-eqb, ne_eqb, leb-true, not-false}
use Rattle.codes.specs.Told.{Reason, refused, done, answered}
use Rattle.codes.specs.Reasons.{Clear, numbered}
use Rattle.codes.specs.Sizes.{bytes}
use Rattle.codes.specs.Judge.{sized, pair_in}
use Rattle.codes.specs.declared.Code.{Code}
use Rattle.codes.specs.declared.Refusal.{Refusal}
use Rattle.codes.specs.declared.Refusal.TheVariants.{Length, Node, Repeat}
use Rattle.codes.proofs.Bools.{both, and_right, apart}
use Rattle.codes.proofs.Told.{refused-first, answered-skip, answered-hand-on, answered-goes-on, done-clear, clear-done}
use Rattle.stripes.specs.Lists.{within}
use Rattle.shares.specs.Fields.{code_in, node_in, stripes_in, count_in, stripe_at}
use Rattle.shares.specs.File.{totalled, file_reasons}
use Rattle.shares.specs.Total.{code_reasons}
use Rattle.shares.specs.Afresh.{afresh}
use Rattle.shares.proofs.Answers.{nonzero, left-refused, left-done}
use Rattle.shares.proofs.Accepted.{clear-append}
use Rattle.books.specs.Cut.{cut_reasons, cut_told, cut_leaves}
use Rattle.books.specs.Answer.{answers_from, answer_reasons, answer_told, answer_leaves}

out-left : (a b : Bool) → a ≡ false → (a && b) ≡ false
out-left true b e = apart true refl e
out-left false b e = refl

out-right : (a b : Bool) → b ≡ false → (a && b) ≡ false
out-right a b e = ap (λ (x : Bool). a && x) e ∙ and-false a

neither : (a b : Bool) → (a || b) ≡ false → (a ≡ false) × (b ≡ false)
neither true b e = apart true refl e
neither false b e = (refl, e)

-- ---- cutting a book

module _ (c : Code) (v t : ℕ) (book o : List ℕ) where
  abbrev J : List Reason
  J = code_reasons c (not (totalled t))

  cut-says : (r : Refusal) → refused r ≡ answered (cut_reasons c v t book o) (pair_in c) 0 → (refused r ≡ cut_told c v t book o) × (o ≡ cut_leaves c v t book o)
  unfolding cut_told cut_leaves
  cut-says r e = (e, left-refused (cut_reasons c v t book o) (afresh c v t 0 book) o (nonzero (cut_reasons c v t book o) r (pair_in c) 0 e))

  pub cut-code : (r : Refusal) → refused r ≡ answered J (pair_in c) 0 → (refused r ≡ cut_told c v t book o) × (o ≡ cut_leaves c v t book o)
  unfolding cut_reasons
  cut-code r e = cut-says r (answered-hand-on r J _ (pair_in c) 0 0 e)

  j-numbered : numbered J ≡ true
  unfolding code_reasons
  j-numbered = refl

  pub code-good : done 0 ≡ answered J (pair_in c) 0 → Clear J
  code-good e = done-clear J (pair_in c) 0 0 j-numbered e

  module _ (h : Clear J) where
    pub cut-total : t ≤ 1024
    unfolding code_reasons
    cut-total = leb-true t 1024 (and_right (leb 1 t) (leb t 1024) (not-false _ (neither (not (sized c)) (not (totalled t)) h.1.0).1))

    lengths-out : (eqb (length book) (t * bytes c) && eqb (length o) (stripe_at t)) ≡ false → (refused Length ≡ cut_told c v t book o) × (o ≡ cut_leaves c v t book o)
    unfolding cut_reasons
    lengths-out e = cut-says Length (refused-first Length _ (pair_in c) 0 (λ z. omega arith) (ap not e) ∙ sym (answered-goes-on J _ (pair_in c) 0 h))

    pub cut-book : (length book ≡ t * bytes c → ⊥) → (refused Length ≡ cut_told c v t book o) × (o ≡ cut_leaves c v t book o)
    cut-book n = lengths-out (out-left _ _ (ne_eqb _ _ n))

    pub cut-output : (length o ≡ stripe_at t → ⊥) → (refused Length ≡ cut_told c v t book o) × (o ≡ cut_leaves c v t book o)
    cut-output n = lengths-out (out-right (eqb (length book) (t * bytes c)) _ (ne_eqb _ _ n))

    module _ (p : length book ≡ t * bytes c) (q : length o ≡ stripe_at t) where
      fit : (eqb (length book) (t * bytes c) && eqb (length o) (stripe_at t)) ≡ true
      fit = both _ _ (eq-eqb _ _ p) (eq-eqb _ _ q)

      pub cut-node : within c v ≡ false → (refused Node ≡ cut_told c v t book o) × (o ≡ cut_leaves c v t book o)
      unfolding cut_reasons
      cut-node e =
          cut-says Node
          (refused-first Node _ (pair_in c) 0 (λ z. omega arith) (ap not e) ∙ sym (answered-skip 5 _ (pair_in c) 0 (ap not fit))
          ∙ sym (answered-goes-on J _ (pair_in c) 0 h))

      cut-clear : within c v ≡ true → Clear (cut_reasons c v t book o)
      unfolding cut_reasons
      cut-clear w = clear-append J _ h (ap not fit, (ap not w, tt))

      pub cut-done : within c v ≡ true → (w : List ℕ) → w ≡ afresh c v t 0 book → (done 0 ≡ cut_told c v t book o) × (w ≡ cut_leaves c v t book o)
      unfolding cut_told cut_leaves
      cut-done e w g =
          (sym (clear-done (cut_reasons c v t book o) (pair_in c) 0 (cut-clear e)), g ∙ left-done (cut_reasons c v t book o) (afresh c v t 0 book) o (cut-clear e))

-- ---- answering for a failed node

module _ (s : List ℕ) (f : ℕ) (o : List ℕ) where
  abbrev Pair : ℕ × ℕ
  Pair = pair_in (code_in s)

  abbrev After : List ℕ
  After = answers_from (code_in s) s f 0 (stripes_in s)

  answer-says : (r : Refusal) → refused r ≡ answered (answer_reasons s f o) Pair 0 → (refused r ≡ answer_told s f o) × (o ≡ answer_leaves s f o)
  unfolding answer_told answer_leaves
  answer-says r e = (e, left-refused (answer_reasons s f o) After o (nonzero (answer_reasons s f o) r Pair 0 e))

  pub answer-file : (r : Refusal) → refused r ≡ answered (file_reasons s) Pair (count_in s) → (refused r ≡ answer_told s f o) × (o ≡ answer_leaves s f o)
  unfolding answer_reasons
  answer-file r e = answer-says r (answered-hand-on r (file_reasons s) _ Pair (count_in s) 0 e)

  module _ (h : Clear (file_reasons s)) where
    pub answer-output : (length o ≡ stripes_in s * 10 → ⊥) → (refused Length ≡ answer_told s f o) × (o ≡ answer_leaves s f o)
    unfolding answer_reasons
    answer-output n = answer-says Length (refused-first Length _ Pair 0 (λ z. omega arith) (ap not (ne_eqb _ _ n)) ∙ sym (answered-goes-on (file_reasons s) _ Pair 0 h))

    module _ (p : length o ≡ stripes_in s * 10) where
      pub answer-node : within (code_in s) f ≡ false → (refused Node ≡ answer_told s f o) × (o ≡ answer_leaves s f o)
      unfolding answer_reasons
      answer-node e =
          answer-says Node
          (refused-first Node _ Pair 0 (λ z. omega arith) (ap not e) ∙ sym (answered-skip 5 _ Pair 0 (ap not (eq-eqb _ _ p)))
          ∙ sym (answered-goes-on (file_reasons s) _ Pair 0 h))

      module _ (w : within (code_in s) f ≡ true) where
        pub answer-repeat : eqb f (node_in s) ≡ true → (refused Repeat ≡ answer_told s f o) × (o ≡ answer_leaves s f o)
        unfolding answer_reasons
        answer-repeat e =
            answer-says Repeat
            (refused-first Repeat _ Pair 0 (λ z. omega arith) e
            ∙ sym (answered-skip 5 _ Pair 0 (ap not (eq-eqb _ _ p)) ∙ answered-skip 6 _ Pair 0 (ap not w))
            ∙ sym (answered-goes-on (file_reasons s) _ Pair 0 h))

        answer-clear : eqb f (node_in s) ≡ false → Clear (answer_reasons s f o)
        unfolding answer_reasons
        answer-clear n = clear-append (file_reasons s) _ h (ap not (eq-eqb _ _ p), (ap not w, (n, tt)))

        pub answer-done : eqb f (node_in s) ≡ false → (x : List ℕ) → x ≡ After → (done 0 ≡ answer_told s f o) × (x ≡ answer_leaves s f o)
        unfolding answer_told answer_leaves
        answer-done n x g =
            (sym (clear-done (answer_reasons s f o) Pair 0 (answer-clear n)), g ∙ left-done (answer_reasons s f o) After o (answer-clear n))
