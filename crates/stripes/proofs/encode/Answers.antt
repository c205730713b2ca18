-- The tests of the code are the reasons of the definition, in their order; a share is written only after the last.
use mathlib.Core.Path.{◌≡◌, ◌∙◌, sym, ap, ap₂}
use mathlib.Core.Bool.{true, false}
use mathlib.Core.List.{List, [], ◌∷◌}
use Prim.Native.Nat.{ℕ}
use native.Mathlib.Omega.{arith}
use borrow.Author.Tests.{eq-eqb, ne_eqb}
use lib.ListN.{length}
use Rattle.codes.specs.Told.{◌when◌, refused, done}
use Rattle.codes.specs.Judge.{pair_in, judged}
use Rattle.codes.specs.Sizes.{alpha, bytes}
use Rattle.codes.specs.Share.{share}
use Rattle.codes.specs.declared.Code.{Code}
use Rattle.codes.specs.declared.Refusal.{Refusal}
use Rattle.codes.specs.declared.Refusal.TheVariants.{Length, Node}
use Rattle.codes.proofs.Told.{handed-on}
use Rattle.codes.proofs.Rules.{rules}
use Rattle.codes.proofs.Sizes.{d-high, bytes_high}
use Rattle.stripes.specs.Lists.{within}
use Rattle.stripes.specs.Encode.{encode_reasons, encoded, encode_leaves}
use Rattle.stripes.specs.Lent.{lent_share}
use Rattle.stripes.proofs.Lent.{node_row, share-row}
use Rattle.stripes.proofs.Ladder.{judged-refused, judged-stop, judged-done, refused-leaves, done-leaves}
use Rattle.stripes.proofs.encode.Goals as goal
use Rattle.stripes.proofs.encode.Goals.{then-message-bytes-via-then-message-bytes, then-message-bytes-via-else-message-bytes+then-output-alpha}

module _ (c : Code) (v : ℕ) (m o : List ℕ) where
  -- a refusal leaves the output as it was
  unchanged : (r : Refusal) → refused r ≡ encoded c v m o → (refused r ≡ encoded c v m o) × (o ≡ encode_leaves c v m o)
  unfolding encoded encode_leaves
  unchanged r e = (e, refused-leaves (encode_reasons c v m o) (pair_in c) 0 (share c v m) o r e)

  written : done 0 ≡ encoded c v m o → share c v m ≡ encode_leaves c v m o
  unfolding encoded encode_leaves
  written e = done-leaves (encode_reasons c v m o) (pair_in c) 0 (share c v m) o 0 e

  no_code : (r : Refusal) → refused r ≡ judged c → refused r ≡ encoded c v m o
  unfolding encoded encode_reasons
  no_code r e = judged-refused c r _ 0 e

  module _ (g : done 0 ≡ judged c) where
    no-message : (length m ≡ bytes c → ⊥) → refused Length ≡ encoded c v m o
    unfolding encoded encode_reasons
    no-message h = judged-stop c g Length [] _ 0 (λ e. omega arith) tt (simp (ne_eqb _ _ h))

    module _ (hm : length m ≡ bytes c) where
      no_output : (length o ≡ alpha c → ⊥) → refused Length ≡ encoded c v m o
      unfolding encoded encode_reasons
      no_output h = judged-stop c g Length [] _ 0 (λ e. omega arith) tt (simp (eq-eqb _ _ hm, ne_eqb _ _ h))

      module _ (ho : length o ≡ alpha c) where
        no_node : within c v ≡ false → refused Node ≡ encoded c v m o
        unfolding encoded encode_reasons
        no_node e = judged-stop c g Node ((5 when _) ∷ []) _ 0 (λ z. omega arith) (simp (eq-eqb _ _ hm, eq-eqb _ _ ho), tt) (simp e)

        all-well : within c v ≡ true → done 0 ≡ encoded c v m o
        unfolding encoded encode_reasons
        all-well e = judged-done c g _ 0 (simp (eq-eqb _ _ hm, eq-eqb _ _ ho), (simp e, tt))

pub returns-in_err-accepted : goal.returns-in_err-accepted
returns-in_err-accepted c =
    let e = unchanged _ _ _ _ _ (no_code _ _ _ _ _ c.in_err-accepted.ensures.answer) in
    record { answer = handed-on (λ _. 0) c.from_residual.result _ c.from_residual.ensures.1 e.0; written = e.1 }

pub returns-then-message-bytes : goal.returns-then-message-bytes
returns-then-message-bytes c =
    let g = c.in_ok-accepted.ensures.answer in
    let e : refused Length ≡ encoded c.args.code c.args.node.0 c.args.message.now c.args.output.now =
    elim c.then-message-bytes.branch [
      | then-message-bytes-via-then-message-bytes w ↦ no-message _ _ _ _ g (λ h. w.if-message-bytes.true (h ∙ sym c.bytes.ensures))
      | then-message-bytes-via-else-message-bytes+then-output-alpha w ↦
          no_output _ _ _ _ g (w.if-message-bytes.false ∙ c.bytes.ensures) (λ h. w.if-output-alpha.true (h ∙ sym w.alpha.ensures))
    ] in
    let u = unchanged _ _ _ _ Length e in
    record { answer = u.0; written = u.1 }

pub returns-then-not-is_within : goal.returns-then-not-is_within
returns-then-not-is_within c =
    let e =
    unchanged _ _ _ _ Node
    (no_node _ _ _ _ c.in_ok-accepted.ensures.answer (c.if-message-bytes.false ∙ c.bytes.ensures) (c.if-output-alpha.false ∙ c.alpha.ensures)
    (sym c.if-not-is_within.ensures)) in
    record { answer = e.0; written = e.1 }

pub write_by-requires : goal.write_by-requires
write_by-requires c =
    let a = c.in_ok-accepted in
    let same : c.from.result.code ≡ c.args.code = c.from.ensures ∙ a.ensures.same in
    rw same (omega (arith, c.bytes.ensures, c.if-message-bytes.false, bytes_high _ (rules _ (sym a.ensures.answer))), c.if-output-alpha.false ∙ c.alpha.ensures)

pub returns : goal.returns
returns c =
    let k = c.args.code in
    let v = c.args.node.0 in
    let m = c.args.message.now in
    let a = c.in_ok-accepted in
    let g : done 0 ≡ judged k = a.ensures.answer in
    let e =
    all-well _ _ _ _ g (c.if-message-bytes.false ∙ c.bytes.ensures) (c.if-output-alpha.false ∙ c.alpha.ensures)
    (sym c.if-not-is_within.ensures) in
    record {
      answer = e;
      written =
          c.write_by.ensures ∙ ap (λ (z : Code). lent_share z c.row_of-row.result c.new-products.result.bytes m) (c.from.ensures ∙ a.ensures.same)
          ∙ ap₂ (λ (r t : List ℕ). lent_share k r t m) (c.row_of-row.ensures ∙ node_row k v _ c.point.ensures) c.new-products.result.right
          ∙ share-row k v m (d-high _ (rules _ (sym g))) ∙ written _ _ _ _ e;
    }
