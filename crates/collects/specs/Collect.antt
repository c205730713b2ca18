-- What collecting a stripe answers, and what it leaves in the lent output.
--   collect_reasons c vs ns s o     the reasons for a refusal, in order: the code c, the nodes vs and counts ns of the shares, the run s of the
--                                  shares and the output o
--   collect_told                    what is told: the shares' count;   collect_leaves   what stands in the output then
-- Assumes nothing.
use Rattle.std.specs.Prelude.{not, ◌&&◌, cond, List, [], ◌∷◌, ◌++◌, ℕ, ◌*◌, eqb, length, get_or}
use Rattle.codes.specs.Told.{Told, Reason, ◌when◌, refusal, answered}
use Rattle.codes.specs.Judge.{judge_reasons, pair_in}
use Rattle.codes.specs.Sizes.{alpha, bytes}
use Rattle.codes.specs.Collect.{collected}
use Rattle.codes.specs.declared.Code.{Code}
use Rattle.stripes.specs.Lists.{every, repeats, differ, within}

unfoldable pub collect_reasons : Code → List ℕ → List ℕ → List ℕ → List ℕ → List Reason
collect_reasons c vs ns s o =
    judge_reasons c
    ++ ((5 when not (eqb (length vs) c.k && eqb (length ns) c.k && eqb (length s) (c.k * alpha c) && eqb (length o) (bytes c)))
    ∷ (6 when not (every (within c) vs))
    ∷ (7 when repeats vs)
    ∷ (8 when differ ns)
    ∷ [])

unfoldable pub collect_told : Code → List ℕ → List ℕ → List ℕ → List ℕ → Told
collect_told c vs ns s o = answered (collect_reasons c vs ns s o) (pair_in c) (get_or ns 0 0)

unfoldable pub collect_leaves : Code → List ℕ → List ℕ → List ℕ → List ℕ → List ℕ
collect_leaves c vs ns s o = cond (eqb (refusal (collect_reasons c vs ns s o)) 0) (collected c vs s) o
