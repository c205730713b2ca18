-- `codes::cells::in_triangle` meets its contract: a row of the triangle is passed at each turn, and what is left is a triangle too.
-- Assumes nothing.
use mathlib.Core.Path.{◌≡◌}
use Prim.Native.Nat.{◌+◌, ◌-◌}
use Rattle.codes.specs.Places.{up_row, up_col}
use Rattle.codes.proofs.cells.in_triangle.Given as goal

abbrev pub invariant-loop-row : goal.invariant-loop-row
invariant-loop-row l = (l.row + up_row (l.w - l.row) l.left ≡ up_row l.w l.b) × (l.row + up_col (l.w - l.row) l.left ≡ up_col l.w l.b)
