-- What is told and left of the columns is what is told and left of the list.
use mathlib.Core.Path.{◌≡◌, ◌∙◌}
use native.Mathlib.Omega.{arith}
use lib.ListN.{take}
use lib.Seq.{length-take-le}
use Rattle.triples.specs.Triples.{nodes_of, symbols_of, counts_of}
use Rattle.triples.proofs.Listed.{lent-told, lent-leaves}
use Rattle.triples.proofs.rebuild_from.Goals as goal

pub returns : goal.returns
returns c =
    let s = c.args in
    let hs = s.helpers.now in
    let n = c.lent_of-n.result in
    let l = c.loop-i in
    let e : l.i ≡ n = omega (arith, length-take-le n hs c.lent_of-n.ensures.within) in
    let nodes : take n l.nodes ≡ nodes_of (take n hs) = rw e at l.invariant.nodes in
    let symbols : take n l.symbols ≡ symbols_of (take n hs) = rw e at l.invariant.symbols in
    let counts : take n l.counts ≡ counts_of (take n hs) = rw e at l.invariant.counts in
    record {
      answer = c.rebuild.ensures.answer ∙ lent-told s.code s.failed.0 hs s.output.now n c.lent_of-n.ensures.number _ _ _ nodes symbols counts;
      written = c.rebuild.ensures.written ∙ lent-leaves s.code s.failed.0 hs s.output.now n c.lent_of-n.ensures.number _ _ _ nodes symbols counts;
    }
