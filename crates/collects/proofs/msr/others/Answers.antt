-- `collects::msr::others` meets its contract: each entry is what the closure gives.
-- Assumes nothing.
use borrow.Author.Rules.{rules}
use Rattle.collects.proofs.msr.others.Goals as goal

pub returns : goal.returns
returns c = λ i h. let k = c.row.ensures i h in search rules
