-- `collects::gather::gather` meets its contract: the message is read off the matrix that the shares give.
-- Assumes nothing.
use mathlib.Core.Path.{◌∙◌, sym, ap}
use Prim.Native.Nat.{ℕ, ◌+◌, ◌*◌}
use native.Mathlib.Omega.{arith}
use Rattle.algebra.specs.Bytes.{at}
use Rattle.codes.proofs.Sizes.{alpha-high, d-high}
use Rattle.collects.proofs.Gathering.{collects}
use Rattle.collects.proofs.gather.gather.Goals as goal

pub shares_in-requires : goal.shares_in-requires
shares_in-requires c =
    let r = c.args.accepted.rules in
    let e = c.alpha.ensures in
    (omega (arith, r.order, d-high _ r), omega (arith, e, alpha-high _ r), c.requires.1 ∙ ap (λ (n : ℕ). c.args.accepted.code.k * n) (sym e))

pub returns : goal.returns
returns c =
    let s = c.args in
    let k = s.accepted in
    let e = c.alpha.ensures in
    let h = c.shares_in in
    c.read_off.ensures
    ∙ collects k.code k.rules s.nodes.now s.shares.now c.points_of.result h.result c.gathered-g.result c.points_of.ensures
    (λ u m j n. h.ensures u m j (omega (arith, e)) ∙ ap (λ (a : ℕ). at s.shares.now (u * a + j)) e) c.gathered-g.ensures
