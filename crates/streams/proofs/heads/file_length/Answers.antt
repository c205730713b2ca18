-- `heads::file_length` meets its contract: 45 where the stripe total is not there or outside its rule, and else what it says.
-- Assumes nothing.
use mathlib.Core.Path.{◌∙◌, sym, ap}
use native.Mathlib.Omega.{arith}
use Rattle.shares.specs.Fields.{stripe_at}
use Rattle.shares.specs.File.{totalled}
use Rattle.streams.proofs.Rooms.{whole_length, no-head, no-stripes, few}
use Rattle.streams.proofs.heads.file_length.Goals as goal
use Rattle.streams.proofs.heads.file_length.Goals.{else-head-ge45-via-then-head-ge45+else-is_total, else-head-ge45-via-else-head-ge45}

pub returns-then-is_total : goal.returns-then-is_total
returns-then-is_total c =
    let n = c.number2-total.ensures in
    let t = ap totalled (sym n) ∙ sym c.is_total.ensures ∙ c.if-is_total.true in
    let e = c.stripe_at.ensures.0 in
    (e ∙ ap stripe_at n ∙ whole_length c.args.head.now c.if-head-ge45.true t, omega (arith, e), omega (arith, e, n, few c.args.head.now t))

pub returns-else-head-ge45 : goal.returns-else-head-ge45
returns-else-head-ge45 c =
    let s = c.args.head.now in (
      elim c.else-head-ge45.branch [
        | else-head-ge45-via-then-head-ge45+else-is_total w ↦
            no-stripes s (ap totalled (sym c.number2-total.ensures) ∙ sym w.is_total.ensures ∙ w.if-is_total.false)
        | else-head-ge45-via-else-head-ge45 w ↦ no-head s w.if-head-ge45.false
      ],
      omega arith,
      omega arith,
    )
