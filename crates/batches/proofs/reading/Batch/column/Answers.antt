-- `reading::Batch::column` meets its contract: each place has the byte of its record.
-- Assumes nothing.
use Rattle.std.proofs.Common.{◌≡◌, ◌<◌, length, length-set, get_or-set_other, get_or-set_same, below_more, arith}
use Rattle.codes.proofs.Sizes.{d-high}
use Rattle.batches.proofs.Fields.{listed}
use Rattle.batches.proofs.reading.Batch.column.Goals as goal

pub loop-r-preserved : goal.loop-r-preserved
loop-r-preserved c =
    let l = c.loop-r in
    let lt : l.r < length l.column = omega (arith, l.invariant.long, d-high c.args.self.now.code.code c.args.self.now.code.rules) in
    record {
      long = rw length-set l.invariant.long;
      each = below_more _ _ (λ k h. let ne : k ≡ l.r → ⊥ = λ e. omega arith in rw get_or-set_other (l.invariant.each k h)) (rw get_or-set_same c.byte.ensures);
    }

pub returns : goal.returns
returns c =
    let b = c.args.self.now in
    listed _ _ c.loop-r.column (omega (arith, c.loop-r.invariant.long, d-high b.code.code b.code.rules)) (λ i h. c.loop-r.invariant.each i (omega arith))
