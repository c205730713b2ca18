-- What encoding a stripe answers, and what it leaves in the lent output.
--   encode_reasons c v m o     the reasons for a refusal, in order, for the code c, the node v, the message m and the output o
--   encoded c v m o           what is told;   encode_leaves   what stands in the output then
--   say_encoded                what an answer says
-- Assumes nothing.
use Rattle.std.specs.Prelude.{not, ◌&&◌, cond, List, [], ◌∷◌, ◌++◌, ℕ, eqb, length, Result}
use Rattle.codes.specs.Told.{Told, Reason, ◌when◌, refusal, answered}
use Rattle.codes.specs.Judge.{judge_reasons, pair_in, say_judged}
use Rattle.codes.specs.Sizes.{alpha, bytes}
use Rattle.codes.specs.Share.{share}
use Rattle.codes.specs.declared.Code.{Code}
use Rattle.codes.specs.declared.Refusal.{Refusal}
use Rattle.stripes.specs.Lists.{within}

unfoldable pub encode_reasons : Code → ℕ → List ℕ → List ℕ → List Reason
encode_reasons c v m o =
    judge_reasons c
    ++ ((5 when not (eqb (length m) (bytes c) && eqb (length o) (alpha c)))
    ∷ (6 when not (within c v))
    ∷ [])

unfoldable pub encoded : Code → ℕ → List ℕ → List ℕ → Told
encoded c v m o = answered (encode_reasons c v m o) (pair_in c) 0

unfoldable pub encode_leaves : Code → ℕ → List ℕ → List ℕ → List ℕ
encode_leaves c v m o = cond (eqb (refusal (encode_reasons c v m o)) 0) (share c v m) o

abbrev pub say_encoded : Result Unit Refusal → Told
say_encoded r = say_judged r
