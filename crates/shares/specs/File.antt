-- What judging a share file tells: record by record, the first faulty one decides.
--   below n p             the test p holds at each number below n
--   zero_past a s at j     the symbol j at a place is one of the first a, or zero
--   spare a s at          of the 31 symbols at a place those past the first a are zero
--   stripe_good a s i      a whole D record of the stripe i stands in its turn, with zeros past the first a symbols
--   totalled t            the stripe total t is within its rule
--   node_reasons s         the reasons for a refusal by the N record and what follows it, in order
--   file_reasons s         the reasons for refusing a share file, in order
--   file_told s            what is told: the file's count
--   say_filed, node_told, stripes_told     what an answer says: its count, node and stripe total
--   given rs v            the value v where no reason of rs holds, else 0
--   Says rs s r           the answer r says what the reasons rs and the file s give
-- Assumes nothing.
use Rattle.std.specs.Prelude.{◌≡◌, Bool, true, not, ◌&&◌, ◌||◌, cond, List, [], ◌∷◌, ◌++◌, ℕ, zero, suc, ◌+◌, eqb, leb, ltb, length, get_or, Result, Ok, Err}
use Rattle.records.specs.Numbers.{number_at}
use Rattle.records.specs.Reading.{whole_as}
use Rattle.codes.specs.Told.{Told, Reason, ◌when◌, say, refusal, answered}
use Rattle.codes.specs.Judge.{judge_reasons, pair_in}
use Rattle.codes.specs.Sizes.{alpha}
use Rattle.stripes.specs.Lists.{within}
use Rattle.shares.specs.Fields.{code_in, node_in, stripes_in, count_in, stripe_at}
use Rattle.shares.specs.declared.Filed.{Filed}
use Rattle.codes.specs.declared.Refusal.{Refusal}

unfoldable pub below : ℕ → (ℕ → Bool) → Bool
below zero p = true
below (suc n) p = below n p && p n

abbrev pub zero_past : ℕ → List ℕ → ℕ → ℕ → Bool
zero_past a s at j = ltb j a || eqb (get_or s (at + j) 0) 0

unfoldable pub spare : ℕ → List ℕ → ℕ → Bool
spare a s at = below 31 (zero_past a s at)

unfoldable pub stripe_good : ℕ → List ℕ → ℕ → Bool
stripe_good a s i = whole_as s (stripe_at i) 0x44 && eqb (number_at 2 s (stripe_at i + 1)) i && spare a s (stripe_at i + 3)

abbrev pub totalled : ℕ → Bool
totalled t = leb 1 t && leb t 1024

unfoldable pub node_reasons : List ℕ → List Reason
node_reasons s =
    (1 when not (whole_as s 37 0x4E))
    ∷ (3 when not (totalled (stripes_in s))) ∷ (6 when not (within (code_in s) (node_in s)))
    ∷ (1 when not (below (stripes_in s) (stripe_good (alpha (code_in s)) s)))
    ∷ (1 when not (eqb (length s) (stripe_at (stripes_in s))))
    ∷ []

unfoldable pub file_reasons : List ℕ → List Reason
file_reasons s = (1 when not (whole_as s 0 0x43)) ∷ (judge_reasons (code_in s) ++ node_reasons s)

unfoldable pub file_told : List ℕ → Told
file_told s = answered (file_reasons s) (pair_in (code_in s)) (count_in s)

abbrev pub say_filed : Result Filed Refusal → Told
say_filed r = say (λ (f : Filed). f.count) r

abbrev pub node_told : Result Filed Refusal → ℕ
node_told (Ok f) = f.node.0
node_told (Err r) = 0

abbrev pub stripes_told : Result Filed Refusal → ℕ
stripes_told (Ok f) = f.stripes
stripes_told (Err r) = 0

unfoldable pub given : List Reason → ℕ → ℕ
given rs v = cond (eqb (refusal rs) 0) v 0

pub record Says (rs : List Reason) (s : List ℕ) (r : Result Filed Refusal) : Type 0 where
  pub answer : say_filed r ≡ answered rs (pair_in (code_in s)) (count_in s)
  pub node : node_told r ≡ given rs (node_in s)
  pub stripes : stripes_told r ≡ given rs (stripes_in s)
