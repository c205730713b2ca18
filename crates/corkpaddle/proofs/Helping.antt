-- The tests of a helper's answer from outside are the reasons of the definition, in their order.
--   unchanged        a refusal is told, and leaves the output as it was
--   no_code, no_room, no-help     who refuses: the judge, the output's room, the proved function
--   helps            the proved function's symbol is what the output holds
-- Assumes nothing.
use mathlib.Core.Path.{◌≡◌, ◌∙◌, refl, sym, ap}
use mathlib.Core.List.{List, [], ◌∷◌, append-nil}
use Prim.Native.Nat.{ℕ}
use native.Mathlib.Omega.{arith}
use borrow.Author.Tests.{eq-eqb, ne_eqb}
use lib.ListN.{length, set}
use Rattle.codes.specs.Told.{Told, Reason, refused, done, answered}
use Rattle.codes.specs.Reasons.{Clear}
use Rattle.codes.specs.Judge.{judge_reasons, pair_in, judged}
use Rattle.codes.specs.Share.{symbol_for}
use Rattle.codes.specs.declared.Code.{Code}
use Rattle.codes.specs.declared.Refusal.{Refusal}
use Rattle.codes.specs.declared.Refusal.TheVariants.{Length}
use Rattle.codes.proofs.Told.{answered-hand-on, done-clear, clear-done}
use Rattle.stripes.specs.Help as stripe
use Rattle.stripes.proofs.Ladder.{judged-refused, judged-stop, refused-leaves, done-leaves}
use Rattle.corkpaddle.specs.Help.{help_reasons, help_told, help_leaves}

set-only : (o : List ℕ) (x : ℕ) → length o ≡ 1 → set o 0 x ≡ x ∷ []
set-only [] x e = absurd (omega arith)
set-only (y ∷ []) x e = refl
set-only (y ∷ z ∷ o) x e = absurd (omega arith)

module _ (c : Code) (h f : ℕ) (s o : List ℕ) where
  pub unchanged : (r : Refusal) → refused r ≡ help_told c h f s o → o ≡ help_leaves c h f s o
  unfolding help_told help_leaves
  unchanged r e = refused-leaves (help_reasons c h f s o) (pair_in c) 0 ((symbol_for c f s).val ∷ []) o r e

  pub no_code : (r : Refusal) → refused r ≡ judged c → refused r ≡ help_told c h f s o
  unfolding help_told help_reasons
  no_code r e = judged-refused c r _ 0 e

  pub no_room : done 0 ≡ judged c → (length o ≡ 1 → ⊥) → refused Length ≡ help_told c h f s o
  unfolding help_told help_reasons
  no_room g n = judged-stop c g Length [] _ 0 (λ e. omega arith) tt (simp (ne_eqb (length o) 1 n))

  module _ (l : length o ≡ 1) where
    reasons : stripe.help_reasons c h f s ≡ help_reasons c h f s o
    unfolding stripe.help_reasons help_reasons
    reasons = rw (eq-eqb (length o) 1 l)

    pub no-help : (r : Refusal) → refused r ≡ stripe.helped c h f s → refused r ≡ help_told c h f s o
    unfolding stripe.helped help_told
    no-help r e =
        let rs = stripe.help_reasons c h f s in
        answered-hand-on r rs [] (pair_in c) (symbol_for c f s).val 0 e
        ∙ ap (λ (q : List Reason). answered q (pair_in c) 0) (append-nil rs ∙ reasons)

    module _ (x : ℕ) (e : done x ≡ stripe.helped c h f s) where
      none-holds : Clear (stripe.help_reasons c h f s)
      unfolding stripe.helped stripe.help_reasons judge_reasons
      none-holds = done-clear (stripe.help_reasons c h f s) (pair_in c) x (symbol_for c f s).val refl e

      symbol-told : x ≡ (symbol_for c f s).val
      unfolding stripe.helped
      symbol-told = ap (λ (t : Told). t.value) (e ∙ clear-done (stripe.help_reasons c h f s) (pair_in c) (symbol_for c f s).val none-holds)

      done-told : done 0 ≡ help_told c h f s o
      unfolding help_told
      done-told =
          sym (clear-done (stripe.help_reasons c h f s) (pair_in c) 0 none-holds)
          ∙ ap (λ (q : List Reason). answered q (pair_in c) 0) reasons

      pub helps : (done 0 ≡ help_told c h f s o) × (set o 0 x ≡ help_leaves c h f s o)
      unfolding help_told help_leaves
      helps = (
        done-told,
        set-only o x l ∙ ap (λ (y : ℕ). y ∷ []) symbol-told
            ∙ done-leaves (help_reasons c h f s o) (pair_in c) 0 ((symbol_for c f s).val ∷ []) o 0 done-told,
      )
