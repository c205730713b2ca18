-- The judge's reasons for a code that comes with a stripe total.
--   code_reasons c bad     the judge's reasons, with one more fault of size: bad (a stripe total outside its rule)
-- Assumes nothing.
use Rattle.std.specs.Prelude.{Bool, not, ◌||◌, List, [], ◌∷◌}
use Rattle.codes.specs.Told.{Reason, ◌when◌}
use Rattle.codes.specs.Judge.{known, sized, pointed, marks}
use Rattle.codes.specs.declared.Code.{Code}

unfoldable pub code_reasons : Code → Bool → List Reason
code_reasons c bad =
    (2 when not (known c.kind))
    ∷ (3 when (not (sized c) || bad))
    ∷ (4 when not (pointed (marks c) c.points c.n))
    ∷ []
