-- How many helpers of a list are lent on to the rebuild on plain runs.
--   lent_of n     of n helpers: n, and none where there are more than 31
-- Assumes nothing.
use Rattle.std.specs.Prelude.{cond, ℕ, ltb}

unfoldable pub lent_of : ℕ → ℕ
lent_of n = cond (ltb 31 n) 0 n
