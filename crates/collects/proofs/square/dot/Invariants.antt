-- `collects::square::dot` meets its contract: before turn i the sum is that of i products.
-- Assumes nothing.
use mathlib.Core.Path.{◌≡◌}
use Rattle.algebra.specs.Symbol.{symbol}
use Rattle.algebra.specs.Sums.{dot}
use Rattle.algebra.specs.Bytes.{at}
use Rattle.collects.proofs.square.dot.Given as goal

abbrev pub invariant-loop-i : goal.invariant-loop-i
invariant-loop-i l = symbol l.sum ≡ dot l.i (at l.u) (at l.v)
