-- `codes::cells::triangle_size` meets its contract by the closed form of the sum. The product of bytes fits.
-- Assumes nothing.
use Prim.Native.Nat.{◌+◌}
use native.Mathlib.Omega.{arith}
use Rattle.codes.proofs.Sizes.{small, start-closed}
use Rattle.codes.proofs.cells.triangle_size.Goals as goal

pub overflow_mul-result : goal.overflow_mul-result
overflow_mul-result c = let w = c.args.w in omega (arith, small w (w + 1) 255 256 (omega arith) (omega arith))

pub returns : goal.returns
returns c = start-closed c.args.w
