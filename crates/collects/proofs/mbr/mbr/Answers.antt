-- `collects::mbr::mbr` meets its contract: its steps make S beside T.
-- Assumes nothing.
use Rattle.collects.proofs.Gathering.{joins}
use borrow.Author.Rules.{rules}
use Rattle.collects.proofs.mbr.mbr.Goals as goal

pub returns : goal.returns
returns c =
    let s = c.args in
    λ X C hx hc. joins s.k s.d s.shares.now.points s.shares.now.rows c.weights-f.result c.flip-y.result c.times_each-far.result c.powers_each-rows.result
    c.rests-left.result c.times_each-near.result c.copy_rows-g.result c.flip.result X C (search rules) (search rules) hx hc c.weights-f.ensures
    c.flip-y.ensures c.times_each-far.ensures c.powers_each-rows.ensures c.rests-left.ensures c.times_each-near.ensures c.copy_rows-g.ensures
    c.flip.ensures
