-- The tests of the code are the reasons of the definition, in their order; the symbol is made only after the last.
use mathlib.Core.Path.{◌≡◌, ◌∙◌, sym, ap, ap₂}
use mathlib.Core.Bool.{true, false}
use mathlib.Core.List.{List, [], ◌∷◌}
use Prim.Native.Nat.{ℕ}
use native.Mathlib.Omega.{arith}
use borrow.Author.Tests.{eq-eqb, ne_eqb}
use lib.Dec.{eqb}
use lib.ListN.{length}
use Rattle.algebra.specs.Symbol.{F}
use Rattle.codes.specs.Told.{◌when◌, refused, done}
use Rattle.codes.specs.Judge.{judged}
use Rattle.codes.specs.Sizes.{alpha}
use Rattle.codes.specs.Share.{symbol_for}
use Rattle.codes.specs.declared.Code.{Code}
use Rattle.codes.specs.declared.Refusal.{Refusal}
use Rattle.codes.specs.declared.Refusal.TheVariants.{Length, Node, Repeat}
use Rattle.codes.proofs.Told.{handed-on}
use Rattle.codes.proofs.Rules.{rules}
use Rattle.field.specs.declared.Symbol.{Symbol}
use Rattle.codes.proofs.Sizes.{alpha-high}
use Rattle.stripes.specs.Lists.{within}
use Rattle.stripes.specs.Help.{help_reasons, helped}
use Rattle.stripes.specs.Lent.{helped_by}
use Rattle.stripes.proofs.Lent.{node_row, helped-row}
use Rattle.stripes.proofs.Ladder.{judged-refused, judged-stop, judged-done}
use Rattle.stripes.proofs.help.Goals as goal
use Rattle.stripes.proofs.help.Goals.{then-not-is_within-via-then-not-is_within, then-not-is_within-via-else-not-is_within+then-not-is_within-2}

module _ (c : Code) (h f : ℕ) (s : List ℕ) where
  no_code : (r : Refusal) → refused r ≡ judged c → refused r ≡ helped c h f s
  unfolding helped help_reasons
  no_code r e = judged-refused c r _ _ e

  module _ (g : done 0 ≡ judged c) where
    no-share : (length s ≡ alpha c → ⊥) → refused Length ≡ helped c h f s
    unfolding helped help_reasons
    no-share l = judged-stop c g Length [] _ _ (λ e. omega arith) tt (simp (ne_eqb _ _ l))

    module _ (l : length s ≡ alpha c) where
      no-helper : within c h ≡ false → refused Node ≡ helped c h f s
      unfolding helped help_reasons
      no-helper e = judged-stop c g Node ((5 when _) ∷ []) _ _ (λ z. omega arith) (simp (eq-eqb _ _ l), tt) (simp e)

      no-failed : within c h ≡ true → within c f ≡ false → refused Node ≡ helped c h f s
      unfolding helped help_reasons
      no-failed d e = judged-stop c g Node ((5 when _) ∷ []) _ _ (λ z. omega arith) (simp (eq-eqb _ _ l), tt) (simp (d, e))

      module _ (d : within c h ≡ true) (e : within c f ≡ true) where
        itself : eqb h f ≡ true → refused Repeat ≡ helped c h f s
        unfolding helped help_reasons
        itself q = judged-stop c g Repeat ((5 when _) ∷ (6 when _) ∷ []) _ _ (λ z. omega arith) (simp (eq-eqb _ _ l), (simp (d, e), tt)) q

        all-well : eqb h f ≡ false → done (symbol_for c f s).val ≡ helped c h f s
        unfolding helped help_reasons
        all-well q = judged-done c g _ _ (simp (eq-eqb _ _ l), (simp (d, e), (q, tt)))

pub returns-in_err-judge : goal.returns-in_err-judge
returns-in_err-judge c =
    handed-on (λ (s : Symbol). s.0) c.from_residual.result _ c.from_residual.ensures.1 (no_code _ _ _ _ _ c.in_err-judge.ensures.answer)

pub returns-then-share-alpha : goal.returns-then-share-alpha
returns-then-share-alpha c = no-share _ _ _ _ c.in_ok-judge.ensures.answer (λ h. c.if-share-alpha.true (h ∙ sym c.alpha.ensures))

pub returns-then-not-is_within : goal.returns-then-not-is_within
returns-then-not-is_within c =
    let g = c.in_ok-judge.ensures.answer in
    let e : length c.args.share.now ≡ alpha c.args.code = c.if-share-alpha.false ∙ c.alpha.ensures in
    elim c.then-not-is_within.branch [
      | then-not-is_within-via-then-not-is_within w ↦ no-helper _ _ _ _ g e (sym w.if-not-is_within.ensures)
      | then-not-is_within-via-else-not-is_within+then-not-is_within-2 w ↦ no-failed _ _ _ _ g e (sym w.if-not-is_within.ensures) (sym w.if-not-is_within-2.ensures)
    ]

pub returns-then-eq : goal.returns-then-eq
returns-then-eq c =
    itself _ _ _ _ c.in_ok-judge.ensures.answer (c.if-share-alpha.false ∙ c.alpha.ensures) (sym c.if-not-is_within.ensures) (sym c.if-not-is_within-2.ensures)
    (sym c.if-eq.ensures)

pub returns : goal.returns
returns c =
    let k = c.args.code in
    let f = c.args.failed.0 in
    let s = c.args.share.now in
    let g : done 0 ≡ judged k = c.in_ok-judge.ensures.answer in
    let e : length s ≡ alpha k = c.if-share-alpha.false ∙ c.alpha.ensures in
    ap done
    (c.help_by.ensures
    ∙ ap₂ (λ (r t : List ℕ). (helped_by r t s).val) (c.row_of-row.ensures ∙ node_row k f _ c.point.ensures) c.new-products.result.right
    ∙ ap (λ (x : F). x.val) (helped-row k f s e (alpha-high _ (rules _ (sym g)))))
    ∙ all-well _ _ _ _ g e (sym c.if-not-is_within.ensures) (sym c.if-not-is_within-2.ensures) (sym c.if-eq.ensures)
