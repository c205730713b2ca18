-- Each test that stops is a case of the definition; past the last the lent row's share is written.
use mathlib.Core.Path.{◌≡◌, ◌∙◌, sym, ap}
use Rattle.codes.specs.Sizes.{alpha}
use Rattle.codes.specs.declared.Code.{Code}
use Rattle.stripes.specs.Lent.{encoded_by}
use Rattle.stripes.proofs.Lent.{encoded-shapeless, encoded-many, encoded-other, encoded-is}
use Rattle.stripes.proofs.encode_by.Goals as goal
use Rattle.stripes.proofs.encode_by.Goals.{else-message-le496-via-then-message-le496+else-output-alpha, else-message-le496-via-else-message-le496}

pub returns-in_default : goal.returns-in_default
returns-in_default c = encoded-shapeless _ _ _ _ _ c.in_default.ensures

pub returns-then-output-alpha : goal.returns-then-output-alpha
returns-then-output-alpha c =
    let s = c.in-Some.shape in
    let e : s.code ≡ c.args.code = c.in-Some.ensures in
    c.write_by.ensures
    ∙ encoded-is s.code _ _ _ _ s.known s.sized c.if-message-le496.true (c.if-output-alpha.true ∙ c.alpha.ensures ∙ sym (ap alpha e))
    ∙ ap (λ (k : Code). encoded_by k c.args.row.now c.args.t.now c.args.message.now c.args.output.now) e

pub returns-else-message-le496 : goal.returns-else-message-le496
returns-else-message-le496 c =
    let s = c.in-Some.shape in
    let e : s.code ≡ c.args.code = c.in-Some.ensures in
    let r = c.args.row.now in
    let t = c.args.t.now in
    let m = c.args.message.now in
    let o = c.args.output.now in
    let stays : o ≡ encoded_by s.code r t m o =
    elim c.else-message-le496.branch [
      | else-message-le496-via-then-message-le496+else-output-alpha w ↦
          encoded-other _ _ _ _ _ s.known s.sized w.if-message-le496.true (λ h. w.if-output-alpha.false (h ∙ ap alpha e ∙ sym w.alpha.ensures))
      | else-message-le496-via-else-message-le496 w ↦ encoded-many _ _ _ _ _ s.known s.sized w.if-message-le496.false
    ] in
    stays ∙ ap (λ (k : Code). encoded_by k r t m o) e
