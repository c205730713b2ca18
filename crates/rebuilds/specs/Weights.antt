-- How the weights of a plan are made from the solutions for the unit vectors.
--   point_in ps v     the point of the node v among the points ps;   points_in ps vs    those of the nodes vs, as symbols
--   factor c f       by what the second half of a solution is multiplied: kind 1 by nothing, kind 2 by lambda of the failed node f
--   folded a l v     the first a entries of v, each plus l times the entry a places on; zero from a on
--   folded_by a l B   the rows of the grid B, folded;   rows_to n G    the first n rows of G, and zeros below
--   folded_rows c f B    the first d rows of the grid B, folded, in a grid of 31 by 31
-- Assumes nothing.
use Rattle.std.specs.Prelude.{cond, List, [], ℕ, ◌+◌, ◌-◌, eqb, get_or}
use Rattle.field.specs.declared.Symbol.{Symbol}
use Rattle.algebra.specs.Symbol.{F, symbol, ◌⊕◌, ◌⊗◌, 𝟘}
use Rattle.algebra.specs.Sums.{Vec, Grid, pick}
use Rattle.algebra.specs.Bytes.{at}
use Rattle.codes.specs.Sizes.{none, alpha, lambda}
use Rattle.codes.specs.declared.Code.{Code}
use Rattle.solver.specs.Rows.{rows_of}

abbrev pub point_in : List Symbol → ℕ → ℕ
point_in ps v = (get_or ps (v - 1) none).0

abbrev pub points_in : List Symbol → List ℕ → Vec
points_in ps vs t = symbol (point_in ps (get_or vs t 0))

unfoldable pub factor : Code → ℕ → F
factor c f = cond (eqb c.kind 1) 𝟘 (lambda c f)

unfoldable pub folded : ℕ → F → Vec → Vec
folded a l v j = pick j a (v j ⊕ l ⊗ v (a + j)) 𝟘

abbrev pub folded_by : ℕ → F → List (List ℕ) → Grid
folded_by a l B t = folded a l (at (get_or B t []))

abbrev pub rows_to : ℕ → Grid → Grid
rows_to n G t j = pick t n (G t j) 𝟘

unfoldable pub folded_rows : Code → ℕ → List (List ℕ) → List (List ℕ)
folded_rows c f B = rows_of 31 31 (rows_to c.d (folded_by (alpha c) (factor c f) B))
