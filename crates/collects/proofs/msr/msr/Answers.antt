-- `collects::msr::msr` meets its contract: its steps make S1 above S2.
-- Assumes nothing.
use Rattle.collects.proofs.Gathering.{stacks}
use Rattle.collects.proofs.msr.msr.Goals as goal

pub returns : goal.returns
returns c =
    let s = c.args in
    λ X C hx hc. stacks s.w s.shares.now.points s.shares.now.rows c.powers_each-rows.result c.times_each-r.result c.halves-h.result c.weights-f.result
    c.times_each-near.result c.times_each-far.result c.copy_rows.result X C c.requires hx hc c.weights-f.ensures
    c.powers_each-rows.ensures c.times_each-r.ensures c.halves-h.ensures c.flip-first.result c.copy_rows-below.result c.flip-second.result _
    c.flip-first.ensures c.times_each-near.ensures c.copy_rows-below.ensures c.flip-second.ensures c.times_each-far.ensures c.copy_rows.ensures
