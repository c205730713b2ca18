-- Demand 2, collecting: what a message is. That the shares of any k different nodes give it back is proved in proofs/Collect.
--   Message B m        m is a list of B bytes
-- Assumes nothing.
use Rattle.std.specs.Prelude.{◌≡◌, List, ℕ, ◌<◌, length, get_or}

pub record Message (B : ℕ) (m : List ℕ) : Type 0 where
  pub long : length m ≡ B
  pub byte : (i : ℕ) → i < B → get_or m i 0 < 256
