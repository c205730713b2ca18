-- What a lent row and a lent table of products give for one stripe, whatever stands in them.
-- By a node's row and `tables` they give its share, and the helper's symbol for it.
--   row_bytes c v          the encoding row of the node v as 31 bytes, whatever the node's number
--   weighed n r w f       the sum of n products of the row r and the vector f, as the table w has them
--   helped_by r w s        what a helper with the share s sends by the row r; 𝟘 for a share of more than 31 bytes
--   lent_share c r w m     the row r times the message matrix of m, as alpha bytes
--   encoded_by c r w m o   the output o after encoding: unchanged where the kind or the sizes are out of their rule, m has more than 496 bytes, or o not alpha
-- Assumes nothing.
use Rattle.std.specs.Prelude.{◌&&◌, cond, List, ℕ, eqb, leb, length, get_or}
use Rattle.field.specs.Tables.{by_table}
use Rattle.algebra.specs.Symbol.{F, symbol, 𝟘}
use Rattle.algebra.specs.Sums.{Vec, sum}
use Rattle.algebra.specs.Bytes.{at, table}
use Rattle.codes.specs.Judge.{known, sized}
use Rattle.codes.specs.Sizes.{alpha, row}
use Rattle.codes.specs.Matrix.{matrix}
use Rattle.codes.specs.declared.Code.{Code}

unfoldable pub row_bytes : Code → ℕ → List ℕ
row_bytes c v = table 31 (row c v)

unfoldable pub weighed : ℕ → List ℕ → List ℕ → Vec → F
weighed n r w f = sum n (λ i. symbol (by_table w (get_or r i 0) (f i).val))

unfoldable pub helped_by : List ℕ → List ℕ → List ℕ → F
helped_by r w s = cond (leb (length s) 31) (weighed (length s) r w (at s)) 𝟘

unfoldable pub lent_share : Code → List ℕ → List ℕ → List ℕ → List ℕ
lent_share c r w m = table (alpha c) (λ j. weighed c.d r w (λ i. matrix c (at m) i j))

unfoldable pub encoded_by : Code → List ℕ → List ℕ → List ℕ → List ℕ → List ℕ
encoded_by c r w m o =
    cond (known c.kind && sized c && leb (length m) 496 && eqb (length o) (alpha c)) (lent_share c r w m) o
