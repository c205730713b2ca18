-- The first place where a test holds.
--   first n i p     the least of the n places from i at which the test p holds, or i + n where there is none
-- Assumes nothing.
use Rattle.std.specs.Prelude.{Bool, true, false, ℕ, zero, suc}

unfoldable pub first : ℕ → ℕ → (ℕ → Bool) → ℕ
first zero i p = i
first (suc n) i p = elim (p i) [ true ↦ i | false ↦ first n (suc i) p ]
