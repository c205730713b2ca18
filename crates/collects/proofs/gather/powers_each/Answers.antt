-- `collects::gather::powers_each` meets its contract: before turn u, u rows are filled.
-- Assumes nothing.
use Rattle.collects.proofs.Squares.{holds-store}
use borrow.Author.Rules.{rules}
use Rattle.collects.proofs.gather.powers_each.Goals as goal

pub loop-u-preserved : goal.loop-u-preserved
loop-u-preserved c =
    let l = c.loop-u in
    (search rules, holds-store l.g c.powers.result (search rules) l.invariant.1 c.powers.ensures)
