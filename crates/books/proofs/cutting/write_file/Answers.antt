-- `cutting::write_file` meets its contract. The loop's invariant: C, N and the D records of the stripes passed stand in the output.
-- Assumes nothing.
use mathlib.Core.Path.{◌≡◌, ◌∙◌, ap}
use mathlib.Core.List.{List}
use Prim.Native.Nat.{ℕ}
use native.Mathlib.Omega.{arith}
use borrow.Author.Rules.{rules}
use lib.ListN.{length}
use Rattle.codes.specs.Sizes.{bytes}
use Rattle.codes.specs.Share.{share}
use Rattle.codes.proofs.Sizes.{alpha-high}
use Rattle.shares.specs.Fields.{stripe_record}
use Rattle.books.proofs.Sheet.{as_long, message-is, sheet-start, sheet-next, sheet-end}
use Rattle.books.proofs.cutting.write_file.Goals as goal

pub loop-i-init : goal.loop-i-init
loop-i-init c =
    let a = c.args in
    let r = a.row.now in
    let p = c.put.ensures.left in
    let q = c.put-2.ensures.left in
    let m : length c.code_record.result ≡ 37 = search rules in
    let n : length c.node_record.result ≡ 8 = search rules in (
      as_long c.put-2.new.out c.put.new.out c.node_record.result 37 q ∙ as_long c.put.new.out a.output.now c.code_record.result 0 p
          ∙ c.requires.room,
      sheet-start r.accepted.code r.node.0 a.stripes a.book.now a.output.now _ _ _ _ c.code_record.ensures c.node_record.ensures m n
          (omega (arith, c.requires.room)) p q,
    )

pub loop-i-preserved : goal.loop-i-preserved
loop-i-preserved c =
    let a = c.args in
    let r = a.row.now in
    let k = r.accepted in
    let i = c.loop-i.i in
    let v = c.loop-i.invariant in
    let q = c.put-in-loop-i.ensures.left in
    let l : length c.record.result ≡ 34 = search rules in
    let m = message-is a.book.now i c.bytes-b.result (bytes k.code) c.bytes-b.ensures in
    let f = c.record.ensures ∙ ap (λ (m : List ℕ). stripe_record i (share k.code r.node.0 m)) m in (
      as_long c.put-in-loop-i.new.out c.loop-i.output c.record.result c.stripe_at.result q ∙ v.0,
      sheet-next k.code r.node.0 a.stripes a.book.now i _ c.loop-i.output _ _ (alpha-high k.code k.rules) v.1 c.stripe_at.ensures.0 f l
          (omega (arith, v.0, c.loop-i-test.true)) q,
    )

pub returns : goal.returns
returns c =
    let a = c.args in
    let r = a.row.now in
    sheet-end r.accepted.code r.node.0 a.stripes a.book.now c.loop-i.i c.loop-i.output (omega arith) c.loop-i.invariant.0 c.loop-i.invariant.1
