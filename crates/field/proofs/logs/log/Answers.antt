-- `field::logs::log` meets its contract: the rule of the table of logarithms at the symbol.
-- Assumes nothing.
use borrow.Author.Rules.{rules}
use Rattle.field.proofs.Powers.{log-lt}
use Rattle.field.proofs.Pow.{generator-logs}
use Rattle.field.proofs.logs.log.Goals as goal

pub returns : goal.returns
returns c = (log-lt c.args.a (search rules), generator-logs c.args.a (search rules) (search rules))
