-- `rebuilds::weigh::weights` meets its contract: before turn j, j places hold their weights.
use Rattle.algebra.specs.Symbol.{symbol}
use Rattle.algebra.specs.Bytes.{at}
use Rattle.rebuilds.specs.Weights.{folded}
use Rattle.rebuilds.proofs.Filling.{Filling}
use Rattle.rebuilds.proofs.weigh.weights.Given as goal

abbrev pub invariant-loop-j : goal.invariant-loop-j
invariant-loop-j l = Filling 31 (folded l.a (symbol l.l) (at l.row)) l.x-items l.j
