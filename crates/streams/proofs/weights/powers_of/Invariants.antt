-- `weights::powers_of` meets its contract. The loop's invariant: the powers before the one in hand are made.
-- Assumes nothing.
use Rattle.std.proofs.Common.{◌≡◌, ℕ, ◌<◌, get_or, length}
use Rattle.field.specs.Field.{pow}
use Rattle.codes.specs.Sizes.{none}
use Rattle.streams.proofs.weights.powers_of.Given as goal

abbrev pub invariant-loop-i : goal.invariant-loop-i
invariant-loop-i l = (length l.p-items ≡ 31) × ((k : ℕ) → k < l.i → (get_or l.p-items k none).0 ≡ pow l.x.0 k)
