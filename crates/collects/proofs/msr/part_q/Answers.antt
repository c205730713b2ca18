-- `collects::msr::part_q` meets its contract: each entry is what the closure gives.
-- Assumes nothing.
use borrow.Author.Rules.{rules}
use Rattle.algebra.specs.Hollow.{second}
use Rattle.algebra.proofs.Ring.{symbol-add, symbol-over}
use Rattle.collects.proofs.msr.part_q.Goals as goal

pub returns : goal.returns
unfolding second
returns c = λ i h. let k = c.row.ensures i h in search (rules, symbol-add, symbol-over)
