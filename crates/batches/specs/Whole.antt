-- Rebuilding a whole share file from t batches of H records end to end: batches are judged in turn, and the first faulty one decides.
--   batch_of d bs i            the batch i
--   turn_faults c a b m i      the reasons for refusing the batch i, b, of a file with the count m: it must have that count and name the stripe i
--   faults_from c a bs i n     the reasons of n batches from the batch i on, in turn; the file's count is the first one's
--   records_from c a bs i n    the D records that they give
--   whole_reasons, whole_told, whole_leaves      the code c, the asked node a, the total t, the batches bs and the output o
-- Assumes nothing.
use Rattle.std.specs.Prelude.{not, ◌&&◌, cond, List, [], ◌∷◌, ◌++◌, ℕ, zero, suc, ◌*◌, eqb, length, take, drop}
use Rattle.codes.specs.Told.{Told, Reason, ◌when◌, refusal, answered}
use Rattle.codes.specs.Judge.{pair_in}
use Rattle.codes.specs.declared.Code.{Code}
use Rattle.shares.specs.Fields.{code_record, node_record, stripe_at}
use Rattle.shares.specs.File.{totalled}
use Rattle.shares.specs.Total.{code_reasons}
use Rattle.batches.specs.Batch.{count_at, stripe_named, faults, rebuilt_record}

abbrev pub batch_of : ℕ → List ℕ → ℕ → List ℕ
batch_of d bs i = take (d * 10) (drop (i * (d * 10)) bs)

abbrev pub turn_faults : Code → ℕ → List ℕ → ℕ → ℕ → List Reason
turn_faults c a b m i = faults c a b (not (eqb (count_at b 0) m)) (eqb (stripe_named b 0) i)

unfoldable pub faults_from : Code → ℕ → List ℕ → ℕ → ℕ → List Reason
faults_from c a bs i zero = []
faults_from c a bs i (suc n) =
    turn_faults c a (batch_of c.d bs i) (count_at bs 0) i ++ faults_from c a bs (suc i) n

unfoldable pub records_from : Code → ℕ → List ℕ → ℕ → ℕ → List ℕ
records_from c a bs i zero = []
records_from c a bs i (suc n) = rebuilt_record c a (batch_of c.d bs i) ++ records_from c a bs (suc i) n

unfoldable pub whole_reasons : Code → ℕ → ℕ → List ℕ → List ℕ → List Reason
whole_reasons c a t bs o =
    code_reasons c (not (totalled t))
    ++ ((5 when not (eqb (length bs) (t * (c.d * 10)) && eqb (length o) (stripe_at t)))
    ∷ faults_from c a bs 0 t)

unfoldable pub whole_told : Code → ℕ → ℕ → List ℕ → List ℕ → Told
whole_told c a t bs o = answered (whole_reasons c a t bs o) (pair_in c) (count_at bs 0)

unfoldable pub whole_leaves : Code → ℕ → ℕ → List ℕ → List ℕ → List ℕ
whole_leaves c a t bs o =
    cond (eqb (refusal (whole_reasons c a t bs o)) 0)
    (code_record c ++ (node_record a t (count_at bs 0) ++ records_from c a bs 0 t)) o
