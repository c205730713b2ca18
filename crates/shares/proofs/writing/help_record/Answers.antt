-- `writing::help_record` meets its contract: the two numbers, byte by byte.
-- Assumes nothing.
use Rattle.shares.proofs.Runs.{help-is}
use Rattle.shares.proofs.writing.help_record.Goals as goal

pub returns : goal.returns
returns c = help-is _ _ _ _ _ _ _ c.bytes4.ensures c.bytes2.ensures
