-- What cutting a book tells, and what it leaves in the lent output: a fresh share file.
--   cut_reasons, cut_told, cut_leaves       the reasons in order, what is told, and the output: the code c, the node v, the total t, the book and the output o
-- Assumes nothing.
use Rattle.std.specs.Prelude.{not, ◌&&◌, List, [], ◌∷◌, ◌++◌, ℕ, ◌*◌, eqb, length}
use Rattle.codes.specs.Told.{Told, Reason, ◌when◌, answered}
use Rattle.codes.specs.Judge.{pair_in}
use Rattle.codes.specs.Sizes.{bytes}
use Rattle.codes.specs.declared.Code.{Code}
use Rattle.stripes.specs.Lists.{within}
use Rattle.shares.specs.Fields.{stripe_at}
use Rattle.shares.specs.File.{totalled}
use Rattle.shares.specs.Total.{code_reasons}
use Rattle.shares.specs.Slip.{left_by}
use Rattle.shares.specs.Afresh.{afresh}

unfoldable pub cut_reasons : Code → ℕ → ℕ → List ℕ → List ℕ → List Reason
cut_reasons c v t book o =
    code_reasons c (not (totalled t))
    ++ ((5 when not (eqb (length book) (t * bytes c) && eqb (length o) (stripe_at t)))
    ∷ (6 when not (within c v))
    ∷ [])

unfoldable pub cut_told : Code → ℕ → ℕ → List ℕ → List ℕ → Told
cut_told c v t book o = answered (cut_reasons c v t book o) (pair_in c) 0

unfoldable pub cut_leaves : Code → ℕ → ℕ → List ℕ → List ℕ → List ℕ
cut_leaves c v t book o = left_by (cut_reasons c v t book o) (afresh c v t 0 book) o
