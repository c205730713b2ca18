-- `writing::stripe_record` meets its contract: the head, then the share, over zeros.
-- Assumes nothing.
use Rattle.std.proofs.Common.{◌∙◌, ℕ, length, take, ap, arith}
use Rattle.std.proofs.Math.Nat.{min_comm}
use Rattle.std.proofs.lemmas.List.{take_min}
use Rattle.shares.proofs.Runs.{stripe-is}
use Rattle.shares.proofs.writing.stripe_record.Goals as goal

pub returns : goal.returns
returns c =
    let s = c.args.share.now in
    let e = c.copy_from_slice-2.ensures.after in
    stripe-is c.args.stripe _ _ _ _ c.bytes2.ensures c.copy_from_slice.ensures.after
    (e ∙ ap (λ (n : ℕ). take n s) (c.min.ensures ∙ min_comm (length s) 31) ∙ take_min 31 s) _ (omega (arith, ap length e))
