-- `field::lent::tables` meets its contract: the logarithms and each run of powers stand side by side.
-- Assumes nothing.
use Rattle.std.proofs.Common.{refl}
use Rattle.field.specs.Tables.{tables}
use Rattle.field.proofs.lent.tables.Goals as goal

pub returns : goal.returns
unfolding tables
returns c =
    rw (c.copy_from_slice.ensures.after, c.copy_from_slice-2.ensures.after, c.copy_from_slice-3.ensures.after, c.copy_from_slice-4.ensures.after) refl
