-- `Station::take_faultless` meets its contract: the count is written, then the share, which stands behind it.
-- Assumes nothing.
use mathlib.Core.Path.{◌∙◌, ap}
use Prim.Native.Nat.{ℕ, ◌+◌}
use native.Mathlib.Omega.{arith}
use Rattle.records.specs.Writing.{put_at}
use Rattle.records.proofs.Digits.{number_small}
use Rattle.shares.specs.Fields.{stripe_at}
use Rattle.shares.proofs.Faults.{next-number}
use Rattle.shares.proofs.Changes.{taken_is}
use Rattle.streams.proofs.station.Station.take_faultless.Goals as goal

pub overflow_add-count : goal.overflow_add-count
overflow_add-count g c =
    let a = c.args in
    let t = c.type_inv.slip in
    omega (arith, c.number4-count.ensures, next-number a.file.now a.slip.now c.requires.0, number_small a.slip.now (λ i. omega (arith, t i)) 4 1)

pub change_share-requires : goal.change_share-requires
change_share-requires g c = omega (arith, c.stripe_at-at.ensures.1)

pub returns-clause-left : goal.returns-clause-left
returns-clause-left g c =
    let s = c.args.file.now in
    let m = ap (λ (n : ℕ). n + 1) c.number4-count.ensures in
    let i = ap (λ (n : ℕ). n + 3) (c.stripe_at-at.ensures.0 ∙ ap stripe_at c.number2.ensures) in
    let t = c.put.ensures.left ∙ ap (put_at s 41) c.bytes4.ensures in
    taken_is s c.args.slip.now _ _ _ _ _ _ _ _ c.requires.1.code c.requires.1.node c.number2-2.ensures c.byte_at.ensures i m t c.change_share.ensures
