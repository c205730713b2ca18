-- `writing::code_record` meets its contract: the head, then the points, over zeros.
-- Assumes nothing.
use Rattle.std.proofs.Common.{◌∙◌, ℕ, get_or, rules, arith}
use Rattle.codes.specs.Sizes.{none}
use Rattle.codes.proofs.Arrays.{from_fn-at}
use Rattle.shares.proofs.Runs.{code_is, bytes-are}
use Rattle.shares.proofs.writing.code_record.Goals as goal

pub returns : goal.returns
returns c =
    let ps = c.args.code.points in
    let m = c.from_fn-points.result in
    let items = c.from_fn-points.ensures.items in
    let bytes =
    bytes-are ps m (search rules) items.long
    (λ j h. from_fn-at _ _ (λ (i : ℕ). (get_or ps i none).0) (λ i y q k. search rules) m 0 32 items j (omega arith)) in
    code_is c.args.code _ _ c.copy_from_slice.ensures.after (c.copy_from_slice-2.ensures.after ∙ bytes)
