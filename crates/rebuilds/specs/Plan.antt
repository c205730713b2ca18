-- What a rebuild does once per set of helpers, and what it then does for each stripe.
--   plan_at c f hs t j   the weight of helper t's symbol in byte j of the failed node's share: the rebuilt share of the unit vector t
--   plan_of c f hs       the same as a grid of 31 by 31 bytes, zero past d and alpha
--   weighed p w ys j    by a plan p and a table w of products, the sum of the symbols ys, each times its weight in byte j
--   applied p w ys o    the output after a plan is applied: as many bytes as it had; unchanged where it or the symbols are more than 31
-- Assumes nothing.
use Rattle.std.specs.Prelude.{◌&&◌, cond, List, ℕ, ltb, leb, length, get_or}
use Rattle.field.specs.Tables.{by_table}
use Rattle.algebra.specs.Symbol.{symbol, 𝟘}
use Rattle.algebra.specs.Sums.{Vec, Grid, sum, unit}
use Rattle.algebra.specs.Bytes.{table}
use Rattle.codes.specs.Sizes.{alpha}
use Rattle.codes.specs.Rebuild.{solution, rebuilt_at}
use Rattle.codes.specs.declared.Code.{Code}
use Rattle.solver.specs.Rows.{rows_of, entry}

unfoldable pub plan_at : Code → ℕ → List ℕ → Grid
plan_at c f hs t j =
    cond (leb c.d 31 && ltb t c.d && ltb j (alpha c)) (rebuilt_at c f (solution c hs (unit t)) j) 𝟘

unfoldable pub plan_of : Code → ℕ → List ℕ → List (List ℕ)
plan_of c f hs = rows_of 31 31 (plan_at c f hs)

unfoldable pub weighed : List (List ℕ) → List ℕ → List ℕ → Vec
weighed p w ys j = sum (length ys) (λ t. symbol (by_table w (entry p t j) (get_or ys t 0)))

unfoldable pub applied : List (List ℕ) → List ℕ → List ℕ → List ℕ → List ℕ
applied p w ys o = cond (leb (length ys) 31 && leb (length o) 31) (table (length o) (weighed p w ys)) o
