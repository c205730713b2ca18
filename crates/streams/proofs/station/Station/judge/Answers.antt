-- `Station::judge` meets its contract: each answer stands for the first of the slip's faults that holds.
-- Assumes nothing.
use mathlib.Core.Path.{◌≡◌, ◌∙◌, sym, ap}
use Prim.Native.Nat.{◌+◌}
use native.Mathlib.Omega.{arith}
use Rattle.codes.specs.Sizes.{bytes}
use Rattle.shares.specs.Fields.{count_in}
use Rattle.shares.specs.Slip.{slip_number}
use Rattle.shares.proofs.Faults.{wrong-length, wrong-kind, wrong-number, wrong-stripe, wrong-index, no-fault}
use Rattle.streams.proofs.Ready.{other_number, next_number}
use Rattle.streams.proofs.station.Station.judge.Goals as goal
use Rattle.streams.proofs.station.Station.judge.Goals.{then-slip-ne10-via-then-slip-ne10, then-slip-ne10-via-else-slip-ne10+then-slip-ne-SLIP, then-number2-via-then-number2, then-number2-via-else-number2+then-number2-self}

pub returns-then-slip-ne10 : goal.returns-then-slip-ne10
returns-then-slip-ne10 g c =
    let s = c.args.file.now in
    let p = c.args.slip.now in
    elim c.then-slip-ne10.branch [
      | then-slip-ne10-via-then-slip-ne10 w ↦ wrong-length s p w.if-slip-ne10.true
      | then-slip-ne10-via-else-slip-ne10+then-slip-ne-SLIP w ↦ wrong-kind s p w.if-slip-ne-SLIP.true
    ]

pub returns-then-ne : goal.returns-then-ne
returns-then-ne g c =
    wrong-number c.args.file.now c.args.slip.now c.if-slip-ne10.false c.if-slip-ne-SLIP.false
    (λ e. other_number _ _ _ c.checked_add.ensures (omega arith) (sym c.ne.ensures ∙ c.if-ne.true)
    (c.number4-2.ensures ∙ e ∙ ap (λ n. n + 1) (sym c.number4.ensures)))

pub returns-then-number2 : goal.returns-then-number2
returns-then-number2 g c =
    let s = c.args.file.now in
    let p = c.args.slip.now in
    let n = next_number _ _ _ c.checked_add.ensures (sym c.ne.ensures ∙ c.if-ne.false) in
    let e : slip_number p ≡ count_in s + 1 = omega (arith, n, c.number4-2.ensures, c.number4.ensures) in
    elim c.then-number2.branch [
      | then-number2-via-then-number2 w ↦ wrong-stripe s p c.if-slip-ne10.false c.if-slip-ne-SLIP.false e
          (omega (arith, w.if-number2.true, c.number2-2.ensures, c.number2.ensures))
      | then-number2-via-else-number2+then-number2-self w ↦ wrong-index s p c.if-slip-ne10.false c.if-slip-ne-SLIP.false e
          (omega (arith, w.if-number2-self.true, c.args.self.now.sized ∙ ap bytes c.requires.code, w.number2-else-number2.ensures))
    ]

pub returns : goal.returns
returns g c =
    let s = c.args.file.now in
    let p = c.args.slip.now in
    let n = next_number _ _ _ c.checked_add.ensures (sym c.ne.ensures ∙ c.if-ne.false) in
    let e : slip_number p ≡ count_in s + 1 = omega (arith, n, c.number4-2.ensures, c.number4.ensures) in
    no-fault s p c.if-slip-ne10.false c.if-slip-ne-SLIP.false e
    (omega (arith, c.if-number2.false, c.number2-2.ensures, c.number2.ensures))
    (omega (arith, c.if-number2-self.false, c.args.self.now.sized ∙ ap bytes c.requires.code, c.number2-else-number2.ensures))
