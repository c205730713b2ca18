-- Where a message's symbols stand in the squares and blocks of the message matrix. Rows, columns and places are counted from 0.
--   start w i           how many places of the upper triangle of a w by w square stand in the rows before row i (row i has w - i)
--   triangle w i j      the place of (i, j), and of (j, i), in that triangle read row by row with its diagonal
--   up_row, up_col w b    the row and the column of the place b there
-- Assumes nothing.
use Rattle.std.specs.Prelude.{cond, ℕ, zero, suc, ◌+◌, ◌-◌, ltb, leb}

unfoldable pub start : ℕ → ℕ → ℕ
start w zero = 0
start w (suc i) = start w i + (w - i)

unfoldable pub triangle : ℕ → ℕ → ℕ → ℕ
triangle w i j = cond (leb i j) (start w i + (j - i)) (start w j + (i - j))

unfoldable pub up_row : ℕ → ℕ → ℕ
up_row zero b = 0
up_row (suc w) b = cond (ltb b (suc w)) 0 (suc (up_row w (b - suc w)))

unfoldable pub up_col : ℕ → ℕ → ℕ
up_col zero b = 0
up_col (suc w) b = cond (ltb b (suc w)) b (suc (up_col w (b - suc w)))
