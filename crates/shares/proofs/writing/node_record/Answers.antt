-- `writing::node_record` meets its contract: the two numbers, byte by byte.
-- Assumes nothing.
use Rattle.shares.proofs.Runs.{node-is}
use Rattle.shares.proofs.writing.node_record.Goals as goal

pub returns : goal.returns
returns c = node-is _ _ _ _ _ c.bytes2.ensures c.bytes4.ensures
