-- What the tests of one batch promise each other.
--   alike a b r    the record r of the batch b names the failed node a, and the first record's count and stripe
-- Assumes nothing.
use Rattle.std.specs.Prelude.{Bool, ◌&&◌, List, ℕ, eqb}
use Rattle.batches.specs.Batch.{failed_in, count_at, stripe_named}

abbrev pub alike : ℕ → List ℕ → ℕ → Bool
alike a b r =
    eqb (failed_in b r) a && (eqb (count_at b 0) (count_at b r) && eqb (stripe_named b 0) (stripe_named b r))
