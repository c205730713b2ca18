-- `collects::gather::part` meets its contract.
-- Assumes nothing.
use mathlib.Core.Path.{ap}
use native.Mathlib.Omega.{arith}
use Rattle.std.proofs.lemmas.List.{places}
use Rattle.algebra.specs.Symbol.{symbol}
use Rattle.collects.proofs.gather.part.Goals as goal

pub returns : goal.returns
returns c = λ i h. ap symbol (grind (arith, places))
