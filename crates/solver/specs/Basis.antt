-- What `basis` answers: the solutions for the unit vectors at the first s of the points xs.
--
-- basis_at xs s u t i   where t < u, coefficient i of the solution for 1 at point t and 0 at the other points; else 𝟘
-- basis_of xs s         31 rows of 31: row t is the solution for point t where t < s; all 0 where s > 31
use Rattle.std.specs.Prelude.{List, ℕ}
use Rattle.algebra.specs.Symbol.{𝟘}
use Rattle.algebra.specs.Sums.{Grid, pick, unit}
use Rattle.algebra.specs.Poly.{interp}
use Rattle.algebra.specs.Bytes.{at}
use Rattle.solver.specs.Rows.{rows_of}

unfoldable pub basis_at : List ℕ → ℕ → ℕ → Grid
basis_at xs s u t i = pick t u (interp s (at xs) (unit t) i) 𝟘

unfoldable pub basis_of : List ℕ → ℕ → List (List ℕ)
basis_of xs s = rows_of 31 31 (λ t i. pick s 32 (basis_at xs s s t i) 𝟘)
