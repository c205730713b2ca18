-- `collects::gather::powers` meets its contract: before turn i, i powers are stored, and p is the next.
-- Assumes nothing.
use mathlib.Core.Path.{◌≡◌}
use lib.ListN.{length}
use Rattle.algebra.specs.Symbol.{symbol, pow}
use Rattle.algebra.specs.Sums.{Same}
use Rattle.algebra.specs.Bytes.{at}
use Rattle.collects.proofs.gather.powers.Given as goal

abbrev pub invariant-loop-i : goal.invariant-loop-i
invariant-loop-i l = (length l.v ≡ 31) × Same l.i (at l.v) (pow (symbol l.x)) × (symbol l.p.0 ≡ pow (symbol l.x) l.i)
