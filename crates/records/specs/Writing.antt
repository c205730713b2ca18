-- Writing a run of bytes at a place.
--
--     fits out at bytes      the test: the bytes fit into out from the place at
--     put_at out at bytes     out with the bytes over those at the place, or as it was where they do not fit
use Rattle.std.specs.Prelude.{Bool, List, ◌++◌, ℕ, ◌+◌, leb, length, take, drop}
use Rattle.records.specs.Choice.{pick}

abbrev pub fits : List ℕ → ℕ → List ℕ → Bool
fits out at bytes = leb (at + length bytes) (length out)

abbrev pub put_at : List ℕ → ℕ → List ℕ → List ℕ
put_at out at bytes = pick (fits out at bytes) (take at out ++ bytes ++ drop (at + length bytes) out) out
