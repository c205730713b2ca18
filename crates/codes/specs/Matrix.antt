-- The message matrix, as document 01 says it. A message is a vector, which is 𝟘 past the message's end.
--   mbr k d m      source 001, equation (11): S (k by k, symmetric) top left, T (k by d - k) top right, T transposed below S, zero elsewhere
--   msr k m        source 001, equation (22): S1 above S2, both symmetric, k - 1 by k - 1
--   matrix c m     the message matrix of the code c: d by alpha
--   lane c b       0 where the message's symbol b stands in the matrix's first alpha rows, and 1 where it stands below them (S2)
--   row_of, col_of c b     its row, counted in its lane, and its column; it stands at (col_of, row_of) of its lane too
-- Assumes nothing.
use Rattle.std.specs.Prelude.{cond, ℕ, ◌+◌, ◌*◌, ◌-◌, ◌/◌, ◌%◌, eqb, ltb}
use Rattle.algebra.specs.Symbol.{𝟘}
use Rattle.algebra.specs.Sums.{Vec, Grid}
use Rattle.codes.specs.Places.{start, triangle, up_row, up_col}
use Rattle.codes.specs.declared.Code.{Code}

-- the message fills the upper triangle of S row by row with its diagonal, then T row by row
unfoldable pub mbr : ℕ → ℕ → Vec → Grid
mbr k d m i j =
    cond (ltb i k) (cond (ltb j k) (s i j) (t i (j - k))) (cond (ltb j k) (t j (i - k)) 𝟘)
  where
    s : Grid
    s i j = m (triangle k i j)

    t : Grid
    t i j = m (start k k + (i * (d - k) + j))

-- the message fills the upper triangle of S1 row by row, then that of S2
unfoldable pub msr : ℕ → Vec → Grid
msr k m i j = cond (ltb i (k - 1)) (s1 i j) (s2 (i - (k - 1)) j)
  where
    s1 : Grid
    s1 i j = m (triangle (k - 1) i j)

    s2 : Grid
    s2 i j = m (start (k - 1) (k - 1) + triangle (k - 1) i j)

unfoldable pub matrix : Code → Vec → Grid
matrix c m i j = cond (eqb c.kind 1) (mbr c.k c.d m i j) (msr c.k m i j)

-- the fill order read the other way
unfoldable pub lane : Code → ℕ → ℕ
lane c b = cond (eqb c.kind 1) 0 (cond (ltb b (start (c.k - 1) (c.k - 1))) 0 1)

unfoldable pub row_of : Code → ℕ → ℕ
row_of c b =
    cond (eqb c.kind 1)
    (cond (ltb b (start c.k c.k)) (up_row c.k b) ((b - start c.k c.k) / (c.d - c.k)))
    (up_row (c.k - 1) (b - lane c b * start (c.k - 1) (c.k - 1)))

unfoldable pub col_of : Code → ℕ → ℕ
col_of c b =
    cond (eqb c.kind 1)
    (cond (ltb b (start c.k c.k)) (up_col c.k b) (c.k + (b - start c.k c.k) % (c.d - c.k)))
    (up_col (c.k - 1) (b - lane c b * start (c.k - 1) (c.k - 1)))
