-- `codes::cells::in_triangle` meets its contract: a row of the triangle is passed at each turn, and what is left is a triangle too.
-- Assumes nothing.
use native.Mathlib.Omega.{arith}
use Rattle.codes.proofs.FillOrder.{up-none}
use Rattle.codes.proofs.cells.in_triangle.Goals as goal

pub returns : goal.returns
returns c = grind (arith, up-none)
