-- What a helper answers for a failed node.
--   help_reasons c h f s    the reasons for a refusal, in order, for the code c, the helper h, the failed node f and the helper's share s
--   helped c h f s         what is told: the helper's symbol;   say_helped    what an answer says
-- Assumes nothing.
use Rattle.std.specs.Prelude.{not, ◌&&◌, List, [], ◌∷◌, ◌++◌, ℕ, eqb, length, Result}
use Rattle.codes.specs.Told.{Told, Reason, ◌when◌, say, answered}
use Rattle.codes.specs.Judge.{judge_reasons, pair_in}
use Rattle.codes.specs.Sizes.{alpha}
use Rattle.codes.specs.Share.{symbol_for}
use Rattle.field.specs.declared.Symbol.{Symbol}
use Rattle.codes.specs.declared.Code.{Code}
use Rattle.codes.specs.declared.Refusal.{Refusal}
use Rattle.stripes.specs.Lists.{within}

unfoldable pub help_reasons : Code → ℕ → ℕ → List ℕ → List Reason
help_reasons c h f s =
    judge_reasons c
    ++ ((5 when not (eqb (length s) (alpha c)))
    ∷ (6 when not (within c h && within c f))
    ∷ (7 when eqb h f)
    ∷ [])

unfoldable pub helped : Code → ℕ → ℕ → List ℕ → Told
helped c h f s = answered (help_reasons c h f s) (pair_in c) (symbol_for c f s).val

abbrev pub say_helped : Result Symbol Refusal → Told
say_helped r = say (λ (s : Symbol). s.0) r
