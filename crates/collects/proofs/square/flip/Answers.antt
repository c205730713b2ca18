-- `collects::square::flip` meets its contract: before turn j, j rows are the columns of g.
-- Assumes nothing.
use Rattle.collects.proofs.Squares.{holds-store}
use borrow.Author.Rules.{rules}
use Rattle.collects.proofs.square.flip.Goals as goal

pub loop-j-preserved : goal.loop-j-preserved
loop-j-preserved c =
    let l = c.loop-j in (search rules, holds-store l.f _ (search rules) l.invariant.1 c.column.ensures)
