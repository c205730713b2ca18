-- The invariant: the sum is that of the first j products.
use mathlib.Core.Path.{◌≡◌}
use Rattle.algebra.specs.Bytes.{at}
use Rattle.stripes.specs.Lent.{weighed}
use Rattle.stripes.proofs.rows.help_by.Given as goal

abbrev pub invariant-loop-j : goal.invariant-loop-j
invariant-loop-j l = l.sum.0 ≡ (weighed l.j l.row l.t (at l.share)).val
