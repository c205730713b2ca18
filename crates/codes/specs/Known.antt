-- That a kind is known has at most one proof. So a struct's ghost field may say it.
-- Assumes nothing.
use Rattle.std.specs.Prelude.{ℕ}
use Rattle.std.proofs.Common.{arith, ap, inl, inr}
use Rattle.std.proofs.Math.Nat.{ℕ_set}
use Rattle.codes.specs.Rules.{Known}

pub known_prop : (k : ℕ) → IsProp (Known k)
known_prop k (inl p) (inl q) = ap inl (ℕ_set _ _ p q)
known_prop k (inl p) (inr q) = absurd (omega arith)
known_prop k (inr p) (inl q) = absurd (omega arith)
known_prop k (inr p) (inr q) = ap inr (ℕ_set _ _ p q)
