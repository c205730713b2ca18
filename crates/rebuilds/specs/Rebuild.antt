-- What rebuilding a stripe answers, and what it leaves in the lent output.
--   rebuild_reasons c f hs ys ns o    the reasons for a refusal, in order: the code c, the failed node f, the helpers' nodes hs, symbols ys and
--                                    counts ns, and the output o
--   rebuild_told                      what is told: the helpers' count;   rebuild_leaves   what stands in the output then
--   say_counted                       what the answer of a rebuild or a collection says
-- Assumes nothing.
use Rattle.std.specs.Prelude.{not, ◌&&◌, ◌||◌, cond, List, [], ◌∷◌, ◌++◌, ℕ, eqb, length, get_or, Result}
use Rattle.codes.specs.Told.{Told, Reason, ◌when◌, say, refusal, answered}
use Rattle.codes.specs.Judge.{judge_reasons, pair_in}
use Rattle.codes.specs.Sizes.{alpha}
use Rattle.codes.specs.Rebuild.{rebuilt}
use Rattle.codes.specs.declared.Code.{Code}
use Rattle.codes.specs.declared.Refusal.{Refusal}
use Rattle.stripes.specs.Lists.{every, has, repeats, differ, within}

unfoldable pub rebuild_reasons : Code → ℕ → List ℕ → List ℕ → List ℕ → List ℕ → List Reason
rebuild_reasons c f hs ys ns o =
    judge_reasons c
    ++ ((5 when not (eqb (length hs) c.d && eqb (length ys) c.d && eqb (length ns) c.d && eqb (length o) (alpha c)))
    ∷ (6 when not (within c f && every (within c) hs))
    ∷ (7 when (has f hs || repeats hs))
    ∷ (8 when differ ns)
    ∷ [])

unfoldable pub rebuild_told : Code → ℕ → List ℕ → List ℕ → List ℕ → List ℕ → Told
rebuild_told c f hs ys ns o = answered (rebuild_reasons c f hs ys ns o) (pair_in c) (get_or ns 0 0)

unfoldable pub rebuild_leaves : Code → ℕ → List ℕ → List ℕ → List ℕ → List ℕ → List ℕ
rebuild_leaves c f hs ys ns o = cond (eqb (refusal (rebuild_reasons c f hs ys ns o)) 0) (rebuilt c f hs ys) o

abbrev pub say_counted : Result ℕ Refusal → Told
say_counted r = say (λ n. n) r
