-- `collects::square::times` meets its contract: before turn i, i entries are products.
-- Assumes nothing.
use Rattle.collects.proofs.Squares.{same_store}
use borrow.Author.Rules.{rules}
use Rattle.collects.proofs.square.times.Goals as goal

pub loop-i-preserved : goal.loop-i-preserved
loop-i-preserved c =
    let l = c.loop-i in
    (search rules, same_store l.v c.dot.result (search rules) l.invariant.1 c.dot.ensures)
