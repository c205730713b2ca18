-- The invariant: the first i symbols of the room are the message's, and what is not yet filled is zero.
use mathlib.Core.Path.{◌≡◌}
use mathlib.Core.List.{List}
use Prim.Native.Nat.{ℕ, ◌<◌, ◌≤◌}
use lib.ListN.{length, get_or}
use Rattle.field.specs.declared.Symbol.{Symbol}
use Rattle.codes.specs.Sizes.{none}
use Rattle.stripes.proofs.room.room_of.Given as goal

-- what stands at b
abbrev pub byte_at : List Symbol → ℕ → ℕ
byte_at w b = (get_or w b none).0

abbrev pub invariant-loop-i : goal.invariant-loop-i
invariant-loop-i l =
    (length l.room ≡ 496) × ((b : ℕ) → b < l.i → byte_at l.room b ≡ get_or l.message b 0) × ((b : ℕ) → l.i ≤ b → byte_at l.room b ≡ 0)
