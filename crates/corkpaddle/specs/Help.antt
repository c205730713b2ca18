-- What a helper answers from outside, where its symbol goes into a lent output.
--   help_reasons c h f s o    the reasons for a refusal, in order, for the code c, the helper h, the failed node f, the helper's share s and
--                            the output o
--   help_told c h f s o       what is told;   help_leaves    what stands in the output then: the helper's symbol
-- Assumes nothing.
use Rattle.std.specs.Prelude.{not, ◌&&◌, cond, List, [], ◌∷◌, ◌++◌, ℕ, eqb, length}
use Rattle.codes.specs.Told.{Told, Reason, ◌when◌, refusal, answered}
use Rattle.codes.specs.Judge.{judge_reasons, pair_in}
use Rattle.codes.specs.Sizes.{alpha}
use Rattle.codes.specs.Share.{symbol_for}
use Rattle.codes.specs.declared.Code.{Code}
use Rattle.stripes.specs.Lists.{within}

unfoldable pub help_reasons : Code → ℕ → ℕ → List ℕ → List ℕ → List Reason
help_reasons c h f s o =
    judge_reasons c
    ++ ((5 when not (eqb (length o) 1 && eqb (length s) (alpha c)))
    ∷ (6 when not (within c h && within c f))
    ∷ (7 when eqb h f)
    ∷ [])

unfoldable pub help_told : Code → ℕ → ℕ → List ℕ → List ℕ → Told
help_told c h f s o = answered (help_reasons c h f s o) (pair_in c) 0

unfoldable pub help_leaves : Code → ℕ → ℕ → List ℕ → List ℕ → List ℕ
help_leaves c h f s o = cond (eqb (refusal (help_reasons c h f s o)) 0) ((symbol_for c f s).val ∷ []) o
