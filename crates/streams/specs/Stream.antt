-- A run of slip records, taken one after the other in a share file.
--   records_in n p, records p     the run p in records of 10 bytes; the last one may be cut short. (n is a bound on how many there are)
--   Way                          a way to take one slip: what is told, and what is left in the file
--   judged_before                 the file was judged before, and only the slip's faults are looked for
--   by_itself                     each slip by itself: the file is judged each time
--   answer_of w s r               the number that is answered to the record r in the file s
--   answers_to w s rs             the E records that answer the records rs; the answer 1 ends the reading
--   file_after w s rs             the share file after the records rs
--   has_ended w s rs              the reading has ended
--   begun n                      how many records a run of n bytes begins
--   roomy p o                    the run o has room for the answers to the run p: 2 bytes for each record that p begins
--   laid u o                     the bytes u over the first ones of o
--   Walks                        what taking a run p in the file s with the answers' run o answers and leaves, where there is room
--   Took                         the same for every answers' run: where there is no room, nothing is done
-- Assumes nothing.
use Rattle.std.specs.Prelude.{◌≡◌, Bool, true, false, cond, List, [], ◌∷◌, ◌++◌, ℕ, zero, suc, ◌+◌, ◌*◌, ◌/◌, ◌≤◌, eqb, leb, length, take, drop}
use Rattle.codes.specs.Told.{Told}
use Rattle.shares.specs.Slip.{slip_told, slip_leaves, judged_told, judged_leaves}

unfoldable pub records_in : ℕ → List ℕ → List (List ℕ)
records_in zero p = []
records_in (suc n) [] = []
records_in (suc n) (b ∷ p) = take 10 (b ∷ p) ∷ records_in n (drop 10 (b ∷ p))

abbrev pub records : List ℕ → List (List ℕ)
records p = records_in (length p) p

pub record Way : Type 0 where
  pub told : List ℕ → List ℕ → Told
  pub leaves : List ℕ → List ℕ → List ℕ

abbrev pub judged_before : Way
judged_before = record { told = judged_told; leaves = judged_leaves }

abbrev pub by_itself : Way
by_itself = record { told = slip_told; leaves = slip_leaves }

abbrev pub answer_of : Way → List ℕ → List ℕ → ℕ
answer_of w s r = (w.told s r).number

unfoldable pub answers_to : Way → List ℕ → List (List ℕ) → List ℕ
answers_to w s [] = []
answers_to w s (r ∷ rs) = 0x45 ∷ answer_of w s r ∷ cond (eqb (answer_of w s r) 1) [] (answers_to w (w.leaves s r) rs)

unfoldable pub file_after : Way → List ℕ → List (List ℕ) → List ℕ
file_after w s [] = s
file_after w s (r ∷ rs) = cond (eqb (answer_of w s r) 1) (w.leaves s r) (file_after w (w.leaves s r) rs)

unfoldable pub has_ended : Way → List ℕ → List (List ℕ) → Bool
has_ended w s [] = false
has_ended w s (r ∷ rs) = cond (eqb (answer_of w s r) 1) true (has_ended w (w.leaves s r) rs)

abbrev pub begun : ℕ → ℕ
begun n = (n + 9) / 10

abbrev pub roomy : List ℕ → List ℕ → Bool
roomy p o = leb (begun (length p) * 2) (length o)

abbrev pub laid : List ℕ → List ℕ → List ℕ
laid u o = u ++ drop (length u) o

pub record Walks (s p o : List ℕ) (written : ℕ) (ended : Bool) (s' o' : List ℕ) : Type 0 where
  pub bytes : written ≡ length (answers_to judged_before s (records p))
  pub end : ended ≡ has_ended judged_before s (records p)
  pub file : s' ≡ file_after judged_before s (records p)
  pub answers : o' ≡ laid (answers_to judged_before s (records p)) o

pub record Took (s p o : List ℕ) (written : ℕ) (ended : Bool) (s' o' : List ℕ) : Type 0 where
  pub bytes : written ≡ cond (roomy p o) (length (answers_to judged_before s (records p))) 0
  pub end : ended ≡ cond (roomy p o) (has_ended judged_before s (records p)) false
  pub file : s' ≡ cond (roomy p o) (file_after judged_before s (records p)) s
  pub answers : o' ≡ cond (roomy p o) (laid (answers_to judged_before s (records p)) o) o
  pub fits : written ≤ length o'
