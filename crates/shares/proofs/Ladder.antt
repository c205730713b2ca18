-- The ladder of reasons for refusing a share file, step by step: each law is one answer of the judge.
-- Assumes nothing.
use mathlib.Core.Path.{◌≡◌, ◌∙◌, refl, sym, ap}
use mathlib.Core.Bool.{true, false, not}
use mathlib.Core.List.{List, ◌∷◌}
use Prim.Native.Nat.{ℕ}
use native.Mathlib.Omega.{arith}
use lib.ListN.{length}
use borrow.Author.Tests.{eq-eqb, ne_eqb}
use Rattle.records.specs.Reading.{whole_as}
use Rattle.codes.specs.Told.{◌when◌, refused, done, answered}
use Rattle.codes.specs.Reasons.{Clear, numbered}
use Rattle.codes.specs.Judge.{judge_reasons, judged, pair_in}
use Rattle.codes.specs.Sizes.{alpha}
use Rattle.codes.specs.declared.Code.{Code}
use Rattle.codes.specs.declared.Refusal.{Refusal}
use Rattle.codes.specs.declared.Refusal.TheVariants.{Record, Size, Node}
use Rattle.codes.proofs.Told.{refused-first, answered-skip, answered-hand-on, done-clear}
use Rattle.codes.proofs.Rules.{judge-numbered}
use Rattle.stripes.specs.Lists.{within}
use Rattle.shares.specs.Fields.{code_in, node_in, stripes_in, count_in, stripe_at}
use Rattle.shares.specs.File.{below, stripe_good, totalled, node_reasons, file_reasons, Says}
use Rattle.shares.specs.declared.Filed.{Filed}
use Rattle.std.specs.Prelude.{Result, Err}
use Rattle.shares.proofs.Answers.{says-refused, says-more}

module _ (s : List ℕ) where
  abbrev Pair : ℕ × ℕ
  Pair = pair_in (code_in s)

  -- ---- from the N record on

  pub no_node : whole_as s 37 0x4E ≡ false → Says (node_reasons s) s (Err Record)
  unfolding node_reasons
  no_node e = says-refused _ s Record (refused-first Record _ Pair (count_in s) (λ z. omega arith) (ap not e))

  module _ (e₁ : whole_as s 37 0x4E ≡ true) where
    pub bad-total : totalled (stripes_in s) ≡ false → Says (node_reasons s) s (Err Size)
    unfolding node_reasons
    bad-total e =
        says-refused _ s Size
        (refused-first Size _ Pair (count_in s) (λ z. omega arith) (ap not e) ∙ sym (answered-skip 1 _ Pair (count_in s) (ap not e₁)))

    module _ (e₂ : totalled (stripes_in s) ≡ true) where
      pub bad-node : within (code_in s) (node_in s) ≡ false → Says (node_reasons s) s (Err Node)
      unfolding node_reasons
      bad-node e =
          says-refused _ s Node
          (refused-first Node _ Pair (count_in s) (λ z. omega arith) (ap not e)
          ∙ sym (answered-skip 1 _ Pair (count_in s) (ap not e₁) ∙ answered-skip 3 _ Pair (count_in s) (ap not e₂)))

      module _ (e₃ : within (code_in s) (node_in s) ≡ true) where
        pub bad-stripe : below (stripes_in s) (stripe_good (alpha (code_in s)) s) ≡ false → Says (node_reasons s) s (Err Record)
        unfolding node_reasons
        bad-stripe e =
            says-refused _ s Record
            (refused-first Record _ Pair (count_in s) (λ z. omega arith) (ap not e)
            ∙ sym (answered-skip 1 _ Pair (count_in s) (ap not e₁) ∙ answered-skip 3 _ Pair (count_in s) (ap not e₂)
            ∙ answered-skip 6 _ Pair (count_in s) (ap not e₃)))

        module _ (e₄ : below (stripes_in s) (stripe_good (alpha (code_in s)) s) ≡ true) where
          pub bad-end : (length s ≡ stripe_at (stripes_in s) → ⊥) → Says (node_reasons s) s (Err Record)
          unfolding node_reasons
          bad-end n =
              says-refused _ s Record
              (refused-first Record _ Pair (count_in s) (λ z. omega arith) (ap not (ne_eqb _ _ n))
              ∙ sym (answered-skip 1 _ Pair (count_in s) (ap not e₁) ∙ answered-skip 3 _ Pair (count_in s) (ap not e₂)
              ∙ answered-skip 6 _ Pair (count_in s) (ap not e₃) ∙ answered-skip 1 _ Pair (count_in s) (ap not e₄)))

          pub node-clear : length s ≡ stripe_at (stripes_in s) → Clear (node_reasons s)
          unfolding node_reasons
          node-clear e = (ap not e₁, (ap not e₂, (ap not e₃, (ap not e₄, (ap not (eq-eqb _ _ e), tt)))))

  file-numbered : numbered (file_reasons s) ≡ true
  unfolding file_reasons judge_reasons node_reasons
  file-numbered = refl

  pub file-clear : (m : ℕ) → done m ≡ answered (file_reasons s) Pair (count_in s) → Clear (file_reasons s)
  file-clear m e = done-clear (file_reasons s) Pair m (count_in s) file-numbered e

  -- ---- the C record

  pub no_code : whole_as s 0 0x43 ≡ false → Says (file_reasons s) s (Err Record)
  unfolding file_reasons
  no_code e = says-refused _ s Record (refused-first Record _ Pair (count_in s) (λ z. omega arith) (ap not e))

  module _ (whole : whole_as s 0 0x43 ≡ true) (c : Code) (same : c ≡ code_in s) where
    pub bad-code : (r : Refusal) → refused r ≡ judged c → Says (file_reasons s) s (Err r)
    unfolding file_reasons judged
    bad-code r e =
        says-refused _ s r
        (answered-hand-on r (judge_reasons (code_in s)) (node_reasons s) Pair 0 (count_in s) (e ∙ ap judged same)
        ∙ sym (answered-skip 1 _ Pair (count_in s) (ap not whole)))

    pub good-code : done 0 ≡ judged c → (r : Result Filed Refusal) → Says (node_reasons s) s r → Says (file_reasons s) s r
    unfolding file_reasons judged
    good-code e r q =
        says-more ((1 when not (whole_as s 0 0x43)) ∷ judge_reasons (code_in s)) (node_reasons s) s r
        (ap not whole, done-clear (judge_reasons (code_in s)) Pair 0 0 (judge-numbered (code_in s)) (e ∙ ap judged same)) q
