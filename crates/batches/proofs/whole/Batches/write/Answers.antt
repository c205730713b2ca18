-- `whole::Batches::write` meets its contract. The loop's invariant: the records of the batches passed are put, and the plan is that of the planned batch's helpers.
-- Assumes nothing.
use Rattle.std.proofs.Common.{◌≡◌, ◌∙◌, sym, ap, refl, arith}
use Rattle.rebuilds.specs.Plan.{plan_of}
use Rattle.records.specs.Writing.{put_at}
use Rattle.codes.proofs.Sizes.{d-high, alpha-high}
use Rattle.shares.proofs.Parts.{put-own}
use Rattle.batches.specs.Batch.{helper_in, helpers_in}
use Rattle.batches.specs.declared.reading.Batch.{Batch}
use Rattle.batches.proofs.Fields.{list-tested}
use Rattle.batches.proofs.Records.{records-none, records-put}
use Rattle.batches.proofs.whole.Batches.write.Goals as goal
use Rattle.batches.proofs.whole.Batches.write.Goals.{then-not-has_helpers_of, else-not-has_helpers_of}

pub loop-i-init : goal.loop-i-init
loop-i-init c =
    let b = c.args.self.now in
    let k = b.code.code in
    let o = c.args.output.now in
    record {
      of_code = cc;
      planned = cc;
      long = refl;
      put = sym (ap (put_at o 45) (records-none k c.args.asked.0 (d-high k b.code.rules) (alpha-high k b.code.rules) b.bytes.now 0) ∙ put-own o 45 0);
    }

pub loop-i-preserved : goal.loop-i-preserved
loop-i-preserved c =
    let b = c.args.self.now in
    let k = b.code.code in
    let a = c.args.asked.0 in
    let l = c.loop-i in
    let j = c.if-not-has_helpers_of in
    let next = c.of-batch.result in
    let e = c.of-batch.ensures in
    let of_code : j.planned.code.code ≡ k = elim j.branch [ then-not-has_helpers_of w ↦ cc | else-not-has_helpers_of w ↦ cc ] in
    let planned : j.plan ≡ plan_of k a (helpers_in k.d j.planned.bytes.now) = elim j.branch [ then-not-has_helpers_of w ↦ cc | else-not-has_helpers_of w ↦ cc ] in
    let now : helpers_in k.d j.planned.bytes.now ≡ helpers_in k.d next.bytes.now = elim j.branch [
      | then-not-has_helpers_of w ↦ ap (λ (x : Batch). helpers_in k.d x.bytes.now) w.planned-is
      | else-not-has_helpers_of w ↦
          let same = sym c.has_helpers_of.ensures ∙ w.if-not-has_helpers_of.false in
          ap (λ (x : Batch). helpers_in k.d x.bytes.now) w.planned-is
          ∙ sym (list-tested k.d (helper_in next.bytes.now) (helper_in l.planned.bytes.now) (rw e.code at same))
    ] in
    let q : j.plan ≡ plan_of next.code.code a (helpers_in next.code.code.d next.bytes.now) = cc in
    record {
      of_code = of_code;
      planned = planned;
      long = c.write.auto.output ∙ l.invariant.long;
      put = rw c.stripe_at.ensures.0 at (c.write.ensures.rebuilt a q)
          ∙ records-put k a (d-high k b.code.rules) (alpha-high k b.code.rules) b.bytes.now c.args.output.now l.output _ l.i
          (omega (arith, c.requires)) l.invariant.put (rw (e.code, e.bytes));
    }
