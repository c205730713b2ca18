-- The laws of the field, in one place for the crates above to cite: each stands, and is proved, in the file that its line names.
-- Assumes nothing.
pub use Rattle.field.proofs.Xor.{xor_assoc, xor-left-comm, xor-exchange, xor-cancel, add-lt}
pub use Rattle.field.proofs.Mul.{low, mul-lt, mul_low, mul_comm, mul_assoc, mul_left_comm, mul-add, add-mul, zero-times, times_zero, one-times, times-one, two-times, one-mul-mul, mul-mul-one, ring, units}
pub use Rattle.field.proofs.Pow.{pow-zero, pow-suc, pow-lt, zero-pow, one-pow, pow-add, pow-mul, pow-round, pow-order}
pub use Rattle.field.proofs.Pow.{generator-order, generator-mod, generator-once, generator-all, generator-nonzero, Logged}
pub use Rattle.field.proofs.Quotient.{inverse-lt, inverse-zero, mul-inverse, quotient-lt, quotient-zero, zero-quotient, quotient-times, quotient-only, mul-cancel, mul-nonzero}
pub use Rattle.field.proofs.Lookup.{by-tables, over-tables}
