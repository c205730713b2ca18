-- `judging::is_spare` meets its contract. The loop's invariant: the symbols passed are among the first a, or zero.
-- Assumes nothing.
use mathlib.Core.Path.{◌≡◌}
use mathlib.Core.Bool.{true}
use Rattle.shares.specs.File.{below, zero_past}
use Rattle.shares.proofs.judging.is_spare.Given as goal

abbrev pub invariant-loop-j : goal.invariant-loop-j
invariant-loop-j l = below l.j (zero_past l.a l.file l.at) ≡ true
