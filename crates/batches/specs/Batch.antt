-- What a batch of H records says, and what rebuilding one stripe from it tells and leaves.
--   list_of n f                    f 0 to f (n - 1)
--   field_of at b r                the byte at of the record r of the batch b
--   help_kind, failed_in, helper_in, count_at, stripe_named, symbol_in b r     the kind byte and the fields of the record r of the batch b
--   helpers_in, symbols_in, counts_in, stripes_named d b                     the same of d records, as lists
--   noded c b r                   the failed node and the helper of the record r are nodes of the code c
--   repeated a d b                the asked node a is among the helpers, or one of them stands there twice
--   faults c a b other placed     the reasons for refusing a batch of d records for the asked node a, in order: 1, 6, 7, 8, 10;
--                                 other: a further reason for 8; placed: the stripe is where it belongs
--   batch_reasons, batch_told, batch_leaves      for one batch b and an output o of 34 bytes
-- Assumes nothing.
use Rattle.std.specs.Prelude.{Bool, false, not, ◌&&◌, ◌||◌, cond, List, [], ◌∷◌, ◌++◌, ℕ, zero, suc, ◌+◌, ◌*◌, eqb, ltb, length, get_or}
use Rattle.records.specs.Numbers.{number_at}
use Rattle.codes.specs.Told.{Told, Reason, ◌when◌, refusal, answered}
use Rattle.codes.specs.Judge.{judge_reasons, pair_in}
use Rattle.codes.specs.Rebuild.{rebuilt}
use Rattle.codes.specs.declared.Code.{Code}
use Rattle.stripes.specs.Lists.{has, repeats, differ, within}
use Rattle.shares.specs.Fields.{stripe_record}
use Rattle.shares.specs.File.{below}

unfoldable pub list_of : ℕ → (ℕ → ℕ) → List ℕ
list_of zero f = []
list_of (suc n) f = f 0 ∷ list_of n (λ r. f (suc r))

abbrev pub field_of : ℕ → List ℕ → ℕ → ℕ
field_of at b r = get_or b (10 * r + at) 0

abbrev pub help_kind : List ℕ → ℕ → ℕ
help_kind b r = get_or b (10 * r) 0

abbrev pub failed_in : List ℕ → ℕ → ℕ
failed_in = field_of 1

abbrev pub helper_in : List ℕ → ℕ → ℕ
helper_in = field_of 2

abbrev pub count_at : List ℕ → ℕ → ℕ
count_at b r = number_at 4 b (10 * r + 3)

abbrev pub stripe_named : List ℕ → ℕ → ℕ
stripe_named b r = number_at 2 b (10 * r + 7)

abbrev pub symbol_in : List ℕ → ℕ → ℕ
symbol_in = field_of 9

abbrev pub helpers_in : ℕ → List ℕ → List ℕ
helpers_in d b = list_of d (helper_in b)

abbrev pub symbols_in : ℕ → List ℕ → List ℕ
symbols_in d b = list_of d (symbol_in b)

abbrev pub counts_in : ℕ → List ℕ → List ℕ
counts_in d b = list_of d (count_at b)

abbrev pub stripes_named : ℕ → List ℕ → List ℕ
stripes_named d b = list_of d (stripe_named b)

abbrev pub noded : Code → List ℕ → ℕ → Bool
noded c b r = within c (failed_in b r) && within c (helper_in b r)

abbrev pub repeated : ℕ → ℕ → List ℕ → Bool
repeated a d b = has a (helpers_in d b) || repeats (helpers_in d b)

unfoldable pub faults : Code → ℕ → List ℕ → Bool → Bool → List Reason
faults c a b other placed =
    (1 when not (below c.d (λ r. eqb (help_kind b r) 0x48)))
    ∷ (6 when not (within c a && below c.d (noded c b)))
    ∷ (7 when repeated a c.d b)
    ∷ (8 when (not (below c.d (λ r. eqb (failed_in b r) a)) || differ (counts_in c.d b) || differ (stripes_named c.d b) || other))
    ∷ (10 when not placed)
    ∷ []

unfoldable pub batch_reasons : Code → ℕ → List ℕ → List ℕ → List Reason
batch_reasons c a b o =
    judge_reasons c
    ++ ((5 when not (eqb (length b) (c.d * 10) && eqb (length o) 34))
    ∷ faults c a b false (ltb (stripe_named b 0) 1024))

unfoldable pub batch_told : Code → ℕ → List ℕ → List ℕ → Told
batch_told c a b o = answered (batch_reasons c a b o) (pair_in c) (count_at b 0)

-- the D record of the stripe that the batch b names, for the asked node a
abbrev pub rebuilt_record : Code → ℕ → List ℕ → List ℕ
rebuilt_record c a b = stripe_record (stripe_named b 0) (rebuilt c a (helpers_in c.d b) (symbols_in c.d b))

unfoldable pub batch_leaves : Code → ℕ → List ℕ → List ℕ → List ℕ
batch_leaves c a b o = cond (eqb (refusal (batch_reasons c a b o)) 0) (rebuilt_record c a b) o
