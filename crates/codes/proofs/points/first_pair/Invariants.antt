-- `codes::points::first_pair` meets its contract. What is left to search, of first places and of second ones, has the same first place as the whole.
-- Assumes nothing.
use mathlib.Core.Path.{◌≡◌}
use Prim.Native.Nat.{◌-◌}
use Rattle.std.specs.Prelude.{None}
use Rattle.codes.specs.First.{first}
use Rattle.codes.specs.Judge.{alike, again, pair_first, pair_second}
use Rattle.codes.proofs.points.first_pair.Given as goal

abbrev pub invariant-loop-j : goal.invariant-loop-j
invariant-loop-j l = (l.found ≡ None) × (first (l.n - l.j) l.j (alike l.m l.i) ≡ pair_second l.m l.n l.i)

abbrev pub invariant-pairs : goal.invariant-pairs
invariant-pairs l = (l.found ≡ None) × (first (l.n - l.i) l.i (again l.m l.n) ≡ pair_first l.m l.n)
