-- The invariant: the first entries are the powers, and the next one is at hand.
use mathlib.Core.Path.{◌≡◌}
use Prim.Native.Nat.{ℕ, ◌<◌}
use lib.ListN.{length, get_or}
use Rattle.algebra.specs.Symbol.{symbol, pow}
use Rattle.stripes.proofs.rows.row_of.Given as goal

abbrev pub invariant-loop-byte : goal.invariant-loop-byte
invariant-loop-byte l =
    (length l.byte-items ≡ 31) × (l.power.0 ≡ (pow (symbol l.x.0) l.byte-index).val)
    × ((e : ℕ) → e < l.byte-index → get_or l.byte-items e 0 ≡ (pow (symbol l.x.0) e).val)
