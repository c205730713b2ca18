-- `rebuilds::weigh::weights` meets its contract: before turn j, j places hold their weights.
use borrow.Author.Rules.{rules}
use Rattle.rebuilds.proofs.Filling.{filling-whole}
use Rattle.rebuilds.proofs.weigh.weights.Goals as goal

pub returns : goal.returns
returns c = filling-whole 31 _ _ _ c.loop-j.invariant (search rules)
