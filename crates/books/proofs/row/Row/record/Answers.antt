-- `row::Row::record` meets its contract: of an accepted code and a message of the right length the whole share is written.
-- Assumes nothing.
use mathlib.Core.Path.{◌∙◌, sym}
use native.Mathlib.Omega.{arith}
use lib.ListN.{replicate}
use lib.Seq.{length-take-le}
use Rattle.codes.proofs.Sizes.{alpha-high}
use Rattle.books.proofs.Settled.{record-whole, share-lent}
use Rattle.books.proofs.row.Row.record.Goals as goal

pub slice_bounds-room-end : goal.slice_bounds-room-end
slice_bounds-room-end c = let a = c.args.self.now.accepted in omega (arith, c.alpha.ensures, alpha-high a.code a.rules)

pub slice_bounds-share-end : goal.slice_bounds-share-end
slice_bounds-share-end c =
    let a = c.args.self.now.accepted in
    sym (length-take-le c.alpha.result (replicate 31 0) (omega (arith, c.alpha.ensures, alpha-high a.code a.rules)))

pub returns : goal.returns
returns c =
    let s = c.args.self.now in
    let a = s.accepted in
    let m = c.args.message.now in
    let l = length-take-le c.alpha.result (replicate 31 0) (omega (arith, c.alpha.ensures, alpha-high a.code a.rules)) ∙ c.alpha.ensures in
    c.stripe_record.ensures
    ∙ record-whole a.code a.rules s.node.0 c.args.i m _
    (c.encode_by.ensures ∙ share-lent a.code a.rules s.node.0 s.bytes s.products.bytes s.of_node s.products.right m _ c.requires l)
