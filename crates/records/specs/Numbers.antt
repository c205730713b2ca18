-- Numbers in records, big-endian, over the width in bytes.
--
--     number_at width s at     the number of that many bytes of s from the place at, a byte past the end counting 0
--     digits width n          the bytes of the number n, what is above that many bytes left out
use Rattle.std.specs.Prelude.{List, [], ◌∷◌, ◌++◌, ℕ, zero, suc, ◌+◌, ◌*◌, ◌/◌, ◌%◌, get_or}

unfoldable pub number_at : ℕ → List ℕ → ℕ → ℕ
number_at zero s at = 0
number_at (suc width) s at = number_at width s at * 256 + get_or s (at + width) 0

unfoldable pub digits : ℕ → ℕ → List ℕ
digits zero n = []
digits (suc width) n = digits width (n / 256) ++ (n % 256 ∷ [])
