-- The inner invariant: the sum is that of the first i products of the row with column j. The outer: the first j bytes are right.
use mathlib.Core.Path.{◌≡◌}
use Prim.Native.Nat.{ℕ, ◌<◌}
use lib.ListN.{get_or}
use Rattle.stripes.specs.Arrays.{cell_at}
use Rattle.stripes.specs.Lent.{weighed}
use Rattle.stripes.proofs.room.times.Given as goal

abbrev pub invariant-loop-i : goal.invariant-loop-i
invariant-loop-i l = l.sum.0 ≡ (weighed l.i l.row l.t (λ q. cell_at l.grid q l.j)).val

abbrev pub invariant-loop-j : goal.invariant-loop-j
invariant-loop-j l = (j : ℕ) → j < l.j → get_or l.output j 0 ≡ (weighed l.d l.row l.t (λ i. cell_at l.grid i j)).val
