-- What a station answers for a failed node, from its share file: one H record for each stripe.
--   answers_from c s f i n      the H records of n stripes from the stripe i on, of the share file s for the failed node f
--   answer_reasons, answer_told, answer_leaves     the reasons in order, what is told, and the output o
-- Assumes nothing.
use Rattle.std.specs.Prelude.{not, List, [], ◌∷◌, ◌++◌, ℕ, zero, suc, ◌*◌, eqb, length}
use Rattle.codes.specs.Told.{Told, Reason, ◌when◌, answered}
use Rattle.codes.specs.Judge.{pair_in}
use Rattle.codes.specs.Share.{symbol_for}
use Rattle.codes.specs.declared.Code.{Code}
use Rattle.stripes.specs.Lists.{within}
use Rattle.shares.specs.Fields.{code_in, node_in, stripes_in, count_in, share_in, help_record}
use Rattle.shares.specs.File.{file_reasons}
use Rattle.shares.specs.Slip.{left_by}

unfoldable pub answers_from : Code → List ℕ → ℕ → ℕ → ℕ → List ℕ
answers_from c s f i zero = []
answers_from c s f i (suc n) =
    help_record f (node_in s) (count_in s) i (symbol_for c f (share_in c s i)).val ++ answers_from c s f (suc i) n

unfoldable pub answer_reasons : List ℕ → ℕ → List ℕ → List Reason
answer_reasons s f o =
    file_reasons s
    ++ ((5 when not (eqb (length o) (stripes_in s * 10)))
    ∷ (6 when not (within (code_in s) f))
    ∷ (7 when eqb f (node_in s))
    ∷ [])

unfoldable pub answer_told : List ℕ → ℕ → List ℕ → Told
answer_told s f o = answered (answer_reasons s f o) (pair_in (code_in s)) 0

unfoldable pub answer_leaves : List ℕ → ℕ → List ℕ → List ℕ
answer_leaves s f o = left_by (answer_reasons s f o) (answers_from (code_in s) s f 0 (stripes_in s)) o
