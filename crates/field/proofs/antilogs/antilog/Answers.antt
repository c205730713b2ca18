-- `field::antilogs::antilog` meets its contract: the rule of the table of powers at the index.
-- Assumes nothing.
use borrow.Author.Rules.{rules}
use Rattle.field.proofs.Pow.{generator-powers}
use Rattle.field.proofs.antilogs.antilog.Goals as goal

pub returns : goal.returns
returns c = generator-powers c.args.i (search rules)
