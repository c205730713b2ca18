-- Demand 1 of the operations on share files and books, each a predicate on what the operation tells and leaves.
--   Some n P                  P holds at a number below n
--   Stands s place kind body  a whole record of that kind stands at the place: its kind byte, and a body of that length
--   TotalOff t                the stripe total t is outside its rule
--   Beyond a s at j           the symbol j at a place is past the first a, and not zero
--   StripeOff a s i           the D record of the stripe i is missing, of another stripe, or has a non-zero symbol past the first a
--   file_words s               the reasons for refusing the share file s: C, the code, N, each D in turn, and what follows the last
--   slip_words s p             a slip's own reasons, after the file's
--   cut_words, answer_words     those of cutting a book after the code's, and of an answer for the failed node f after the file's
--   Bears n own x             x is what demand 1 asks a judge's answer n to name: the file's own number where it is done, else 0
--   Demand1-judge-file, Demand1-take-slip, Demand1-cut, Demand1-answer-for     demand 1 of each
-- Assumes nothing.
use Rattle.std.specs.Prelude.{◌≡◌, ◌⊎◌, ◌≢◌, List, [], ◌∷◌, ◌++◌, ℕ, ◌+◌, ◌*◌, ◌<◌, ◌≤◌, length, get_or}
use Rattle.records.specs.Numbers.{number_at}
use Rattle.codes.specs.Told.{Told}
use Rattle.codes.specs.Rules.{Sized}
use Rattle.codes.specs.Sizes.{alpha, bytes}
use Rattle.codes.specs.declared.Code.{Code}
use Rattle.shares.specs.Fields.{code_in, node_in, stripes_in, count_in, stripe_at}
use Rattle.shares.specs.Slip.{slip_number, slip_stripe, slip_index, taken_in}
use Rattle.shares.specs.Afresh.{afresh}
use Rattle.books.specs.Answer.{answers_from}
use Rattle.demands.specs.Words.{Word, ◌because◌}
use Rattle.demands.specs.Inputs.{LengthsOff, Outside}
use Rattle.demands.specs.Judge.{code_words, judge_words}
use Rattle.demands.specs.Answer.{Tells, Leaves}

pub record Some (n : ℕ) (P : ℕ → Type 0) : Type 0 where
  pub place : ℕ
  pub within : place < n
  pub is : P place

abbrev pub Stands : List ℕ → ℕ → ℕ → ℕ → Type 0
Stands s place kind body = (place + 1 + body ≤ length s) × (get_or s place 0 ≡ kind)

abbrev pub TotalOff : ℕ → Type 0
TotalOff t = (t < 1) ⊎ (1024 < t)

abbrev pub Beyond : ℕ → List ℕ → ℕ → ℕ → Type 0
Beyond a s at j = (a ≤ j) × (get_or s (at + j) 0 ≢ 0)

abbrev pub StripeOff : ℕ → List ℕ → ℕ → Type 0
StripeOff a s i =
    ((Stands s (stripe_at i) 0x44 33 → ⊥) ⊎ (number_at 2 s (stripe_at i + 1) ≢ i))
    ⊎ Some 31 (Beyond a s (stripe_at i + 3))

abbrev pub node_words : List ℕ → List Word
node_words s =
    (1 because (Stands s 37 0x4E 7 → ⊥))
    ∷ (3 because TotalOff (stripes_in s))
    ∷ (6 because Outside (code_in s) (node_in s))
    ∷ (1 because Some (stripes_in s) (StripeOff (alpha (code_in s)) s))
    ∷ (1 because (length s ≢ stripe_at (stripes_in s)))
    ∷ []

abbrev pub file_words : List ℕ → List Word
file_words s = (1 because (Stands s 0 0x43 36 → ⊥)) ∷ (judge_words (code_in s) ++ node_words s)

-- the numbers of a file's reasons, then those of an operation's own
abbrev pub file_numbers : List ℕ → List ℕ
file_numbers ns = 1 ∷ 2 ∷ 3 ∷ 4 ∷ 1 ∷ 3 ∷ 6 ∷ 1 ∷ 1 ∷ ns

abbrev pub slip_words : List ℕ → List ℕ → List Word
slip_words s p =
    (1 because ((length p ≢ 10) ⊎ (get_or p 0 0 ≢ 0x50)))
    ∷ (9 because (slip_number p ≢ count_in s + 1))
    ∷ (10 because ((stripes_in s ≤ slip_stripe p) ⊎ (bytes (code_in s) ≤ slip_index p)))
    ∷ []

abbrev pub cut_words : Code → ℕ → ℕ → List ℕ → List ℕ → List Word
cut_words c v t book o =
    (5 because LengthsOff ((length book, t * bytes c) ∷ (length o, stripe_at t) ∷ []))
    ∷ (6 because Outside c v)
    ∷ []

abbrev pub answer_words : List ℕ → ℕ → List ℕ → List Word
answer_words s f o =
    (5 because LengthsOff ((length o, stripes_in s * 10) ∷ []))
    ∷ (6 because Outside (code_in s) f)
    ∷ (7 because (f ≡ node_in s))
    ∷ []

pub record Bears (number own borne : ℕ) : Type 0 where
  pub accepted : number ≡ 0 → borne ≡ own
  pub refused : number ≢ 0 → borne ≡ 0

-- the judge of a share file also names the file's node and its stripe total
pub record Demand1-judge-file (tells : List ℕ → Told) (node stripes : List ℕ → ℕ) : Type 0 where
  pub answer : (s : List ℕ) → Tells (code_in s) (file_words s) (file_numbers []) (λ x. x ≡ count_in s) (tells s)
  pub noded : (s : List ℕ) → Bears (tells s).number (node_in s) (node s)
  pub striped : (s : List ℕ) → Bears (tells s).number (stripes_in s) (stripes s)

pub record Demand1-take-slip (tells : List ℕ → List ℕ → Told) (leaves : List ℕ → List ℕ → List ℕ) : Type 0 where
  pub answer : (s p : List ℕ) → Tells (code_in s) (file_words s ++ slip_words s p) (file_numbers (1 ∷ 9 ∷ 10 ∷ [])) (λ x. x ≡ count_in s + 1) (tells s p)
  pub file : (s p : List ℕ) → Leaves (tells s p).number s (taken_in s p) (leaves s p)

pub record Demand1-cut (tells : Code → ℕ → ℕ → List ℕ → List ℕ → Told) (leaves : Code → ℕ → ℕ → List ℕ → List ℕ → List ℕ) : Type 0 where
  pub answer : (c : Code) (v t : ℕ) (book o : List ℕ)
      → Tells c (code_words c ((Sized c → ⊥) ⊎ TotalOff t) ++ cut_words c v t book o) (2 ∷ 3 ∷ 4 ∷ 5 ∷ 6 ∷ []) (λ x. x ≡ 0) (tells c v t book o)
  pub output : (c : Code) (v t : ℕ) (book o : List ℕ) → Leaves (tells c v t book o).number o (afresh c v t 0 book) (leaves c v t book o)

pub record Demand1-answer-for (tells : List ℕ → ℕ → List ℕ → Told) (leaves : List ℕ → ℕ → List ℕ → List ℕ) : Type 0 where
  pub answer : (s : List ℕ) (f : ℕ) (o : List ℕ)
      → Tells (code_in s) (file_words s ++ answer_words s f o) (file_numbers (5 ∷ 6 ∷ 7 ∷ [])) (λ x. x ≡ 0) (tells s f o)
  pub output : (s : List ℕ) (f : ℕ) (o : List ℕ)
      → Leaves (tells s f o).number o (answers_from (code_in s) s f 0 (stripes_in s)) (leaves s f o)
