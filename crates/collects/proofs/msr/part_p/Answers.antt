-- `collects::msr::part_p` meets its contract: each entry is what the closure gives.
-- Assumes nothing.
use borrow.Author.Rules.{rules}
use Rattle.algebra.proofs.Ring.{symbol-add, symbol-mul}
use Rattle.collects.proofs.msr.part_p.Goals as goal

pub returns : goal.returns
returns c = λ i h. let k = c.row.ensures i h in search (rules, symbol-add, symbol-mul)
