-- The message that any k shares give, as document 01 says it. xs t is the point of the share t, and C t j its byte j.
--   solve_t, solve_s       kind 1: T from the columns of the shares past k, then S from the others less what T gives there
--   solve_s1, solve_s2     kind 2: the shares times phi transposed, parted into P and Q by the entries (i, j) and (j, i), and S1 and S2 from these
--   gathered c xs C      the matrix's entries: S beside T, or S1 above S2
--   message_of c xs C     the message read off it: at each place its upper entry, also where the shares fit no message
--   collected c vs s     the message that the shares in the run s of the nodes vs give, as B bytes
-- Assumes nothing.
use Rattle.std.specs.Prelude.{cond, List, ℕ, ◌+◌, ◌*◌, ◌-◌, eqb, ltb}
use Rattle.algebra.specs.Symbol.{◌⊕◌, ◌⊗◌, pow}
use Rattle.algebra.specs.Sums.{Vec, Grid, sum}
use Rattle.algebra.specs.Poly.{interp}
use Rattle.algebra.specs.Frame.{off}
use Rattle.algebra.specs.Hollow.{cross, first, second, hollow}
use Rattle.algebra.specs.Bytes.{at, table}
use Rattle.codes.specs.Sizes.{alpha, bytes}
use Rattle.codes.specs.Matrix.{lane, row_of, col_of}
use Rattle.codes.specs.Rebuild.{points_of}
use Rattle.codes.specs.declared.Code.{Code}

-- source 001, equations (14) and (15)
unfoldable pub solve_t : ℕ → Vec → Grid → Grid
solve_t k xs C i j = interp k xs (λ t. C t (k + j)) i

unfoldable pub solve_s : ℕ → ℕ → Vec → Grid → Grid
solve_s k d xs C i j = interp k xs (λ t. C t j ⊕ sum (d - k) (λ l. pow (xs t) (k + l) ⊗ solve_t k xs C j l)) i

-- what solves for the w rows other than the row t of w + 1
abbrev pub without : ℕ → Vec → ℕ → Vec → Vec
without w xs = off (λ f. interp w (λ t. xs (f t)))

-- source 001, equations (30) to (39): R = C phi transposed, entry (i, j) of R is P + lambda_i Q, and P and Q are symmetric
unfoldable pub parted_p : ℕ → Vec → Grid → Grid
parted_p w xs C = first (λ t. pow (xs t) w) (cross w (λ t. pow (xs t)) C)

unfoldable pub parted_q : ℕ → Vec → Grid → Grid
parted_q w xs C = second (λ t. pow (xs t) w) (cross w (λ t. pow (xs t)) C)

unfoldable pub solve_s1 : ℕ → Vec → Grid → Grid
solve_s1 w xs C = hollow w (without w xs) (parted_p w xs C)

unfoldable pub solve_s2 : ℕ → Vec → Grid → Grid
solve_s2 w xs C = hollow w (without w xs) (parted_q w xs C)

unfoldable pub gathered : Code → Vec → Grid → Grid
gathered c xs C r j =
    cond (eqb c.kind 1)
    (cond (ltb j c.k) (solve_s c.k c.d xs C r j) (solve_t c.k xs C r (j - c.k)))
    (cond (ltb r (c.k - 1)) (solve_s1 (c.k - 1) xs C r j) (solve_s2 (c.k - 1) xs C (r - (c.k - 1)) j))

abbrev pub message_of : Code → Vec → Grid → Vec
message_of c xs C b = gathered c xs C (lane c b * alpha c + row_of c b) (col_of c b)

-- the shares stand one after the other in one run
abbrev pub shares_in : Code → List ℕ → Grid
shares_in c s t j = at s (t * alpha c + j)

unfoldable pub collected : Code → List ℕ → List ℕ → List ℕ
collected c vs s = table (bytes c) (message_of c (points_of c vs) (shares_in c s))
