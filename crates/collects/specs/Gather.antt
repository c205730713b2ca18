-- What the steps of a collection promise each other, in the words of codes' Collect.
--   From k a xs c Q      Q holds of each vector and grid of which xs has the first k points, and c the first k rows of a
--   joined k d xs C      kind 1: S beside T
--   stacked w xs C       kind 2: S1 above S2
--   factors w g          the factor of each row, which stands at place w of its powers in the square g
--   Halves w xs l R m h  the first m rows of h are what those of P solve for, and m from row w on what those of Q do: P and Q part R by the factors l
--   deep c               how many rows of the matrix a collection finds: kind 1 those of S, kind 2 all
-- Assumes nothing.
use Rattle.std.specs.Prelude.{cond, List, ℕ, ◌+◌, ◌-◌, ◌<◌, eqb, ltb}
use Rattle.algebra.specs.Sums.{Vec, Grid, Same}
use Rattle.algebra.specs.Bytes.{at}
use Rattle.algebra.specs.Hollow.{first, second}
use Rattle.codes.specs.Collect.{solve_t, solve_s, solve_s1, solve_s2, without}
use Rattle.codes.specs.declared.Code.{Code}
use Rattle.collects.specs.Squares.{cells, Holds}

abbrev pub From : ℕ → ℕ → List ℕ → List (List ℕ) → (Vec → Grid → Type 0) → Type 0
From k a xs c Q = (X : Vec) (C : Grid) → Same k (at xs) X → Holds k a c C → Q X C

unfoldable pub joined : ℕ → ℕ → Vec → Grid → Grid
joined k d xs C i j = cond (ltb j k) (solve_s k d xs C i j) (solve_t k xs C i (j - k))

unfoldable pub stacked : ℕ → Vec → Grid → Grid
stacked w xs C i j = cond (ltb i w) (solve_s1 w xs C i j) (solve_s2 w xs C (i - w) j)

abbrev pub factors : ℕ → List (List ℕ) → Vec
factors w g u = cells g u w

pub record Halves (w : ℕ) (xs l : Vec) (R : Grid) (m : ℕ) (h : List (List ℕ)) : Type 0 where
  pub upper : (u : ℕ) → u < m → Same w (cells h u) (without w xs u (first l R u))
  pub lower : (u : ℕ) → u < m → Same w (cells h (w + u)) (without w xs u (second l R u))

unfoldable pub deep : Code → ℕ
deep c = cond (eqb c.kind 1) c.k c.d
