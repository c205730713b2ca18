-- The rebuilt share of any d symbols, as document 01 says it.
--   solution c hs ys     the vector whose product with the row of each helper hs t is its symbol ys t: the d by d system solved
--   rebuilt_at c f v      the share that the solution v gives: kind 1 v itself, kind 2 its first half plus lambda of f times its second
--   rebuilt c f hs ys    the rebuilt share of the failed node f, as alpha bytes, from the helpers hs and their symbols ys
-- Assumes nothing.
use Rattle.std.specs.Prelude.{cond, List, ℕ, ◌+◌, eqb, get_or}
use Rattle.algebra.specs.Symbol.{◌⊕◌, ◌⊗◌}
use Rattle.algebra.specs.Sums.{Vec}
use Rattle.algebra.specs.Poly.{interp}
use Rattle.algebra.specs.Bytes.{at, table}
use Rattle.codes.specs.Sizes.{alpha, point, lambda}
use Rattle.codes.specs.declared.Code.{Code}

-- the points of the nodes of a list
abbrev pub points_of : Code → List ℕ → Vec
points_of c vs t = point c (get_or vs t 0)

abbrev pub solution : Code → List ℕ → Vec → Vec
solution c hs ys = interp c.d (points_of c hs) ys

unfoldable pub rebuilt_at : Code → ℕ → Vec → Vec
rebuilt_at c f v j = cond (eqb c.kind 1) (v j) (v j ⊕ lambda c f ⊗ v (alpha c + j))

unfoldable pub rebuilt : Code → ℕ → List ℕ → List ℕ → List ℕ
rebuilt c f hs ys = table (alpha c) (rebuilt_at c f (solution c hs (at ys)))
