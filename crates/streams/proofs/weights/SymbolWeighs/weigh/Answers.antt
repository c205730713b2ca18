-- `weigh` of a point by itself meets its contract: the field's product and power, read as symbols.
-- Assumes nothing.
use Rattle.shares.proofs.Changes.{amount-is}
use Rattle.streams.proofs.weights.SymbolWeighs.weigh.Goals as goal

pub returns : goal.returns
returns c = amount-is _ _ _ _ _ _ c.of.ensures c.power.ensures c.times.ensures
