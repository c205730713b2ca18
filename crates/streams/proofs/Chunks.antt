-- A run of slips taken in chunks, and the whole program in pieces.
--   records-joined     a run whose first part has whole records
--   answers-joined, file-joined, ended-joined     a list of records taken in two parts: the second only if the reading has not ended
--   taken-in-parts     a run a ++ b at once, where a has whole records, is a and then, if the reading has not ended, b
--   chunks-are         a run in chunks of whole records is the run at once
--   pieces_are         the program in its pieces writes what the definition of the program says, for every input and every chunk size of whole records
--   room-enough        a run of 40,960 bytes has room for its answers in 8,192
-- Assumes nothing.
use mathlib.Core.Path.{◌≡◌, ◌∙◌, refl, sym, ap, ap₂}
use mathlib.Core.Bool.{true, false, cond, ◌&&◌, or-true}
use mathlib.Core.List.{List, [], ◌∷◌, ◌++◌, append_assoc, append-nil}
use mathlib.Core.Logic.{by_cases}
use Prim.Native.Nat.{ℕ, zero, suc, ◌+◌, ◌*◌, ◌-◌, ◌<◌, ◌≤◌}
use native.Mathlib.Decide.{dec_lt}
use native.Mathlib.Omega.{arith}
use borrow.Author.Tests.{lt-ltb, le-ltb, le-leb, eqb-true}
use lib.Dec.{eqb, leb, ltb}
use lib.ListN.{length, take, drop, length-drop, length-append, take-append-drop, drop_of_length-le}
use lib.Seq.{take_all, take-append-le, drop-append-le, take-add, drop-drop, length-take-le, get_or-take}
use Rattle.codes.proofs.Bools.{by-test}
use Rattle.shares.specs.Fields.{stripes_in}
use Rattle.shares.specs.File.{totalled, file_told}
use Rattle.shares.proofs.Kept.{same_number}
use Rattle.streams.specs.Length.{file_length}
use Rattle.streams.specs.Stream.{records_in, records, Way, judged_before, by_itself, answer_of, answers_to, file_after, has_ended, begun}
use Rattle.streams.specs.Program.{file_of, run_of, output_of, refusal, program_of, head_of, left_of, file_read, rest_of, chunks, pieces_of}
use Rattle.streams.specs.Claims.{InParts, InPieces, RoomEnough}
use Rattle.streams.proofs.Steps.{more}
use Rattle.streams.proofs.Alone.{each-by-itself}

-- ---- two parts

pub records-joined : (n : ℕ) (a b : List ℕ) → length a ≡ n * 10 → records (a ++ b) ≡ records a ++ records b
unfolding records_in
records-joined zero [] b e = refl
records-joined zero (x ∷ a) b e = absurd (omega (arith, e))
records-joined (suc n) a b e =
    let l : 10 ≤ length a = omega (arith, e) in
    more (a ++ b) (omega (arith, length-append a b))
    ∙ ap₂ (λ (r q : List ℕ). r ∷ records q) (take-append-le 10 a b l) (drop-append-le 10 a b l)
    ∙ ap (λ (rs : List (List ℕ)). take 10 a ∷ rs) (records-joined n (drop 10 a) b (omega (arith, e, length-drop 10 a)))
    ∙ ap (λ (rs : List (List ℕ)). rs ++ records b) (sym (more a (omega arith)))

module _ (w : Way) (qs : List (List ℕ)) where
  answers-joined : (rs : List (List ℕ)) (s : List ℕ)
      → answers_to w s (rs ++ qs) ≡ answers_to w s rs ++ cond (has_ended w s rs) [] (answers_to w (file_after w s rs) qs)
  unfolding answers_to file_after has_ended
  answers-joined [] s = refl
  answers-joined (r ∷ rs) s =
      by-test (eqb (answer_of w s r) 1) (λ t. rw t) (λ t. rw t (ap (λ (l : List ℕ). 0x45 ∷ answer_of w s r ∷ l) (answers-joined rs (w.leaves s r))))

  file-joined : (rs : List (List ℕ)) (s : List ℕ) → file_after w s (rs ++ qs) ≡ cond (has_ended w s rs) (file_after w s rs) (file_after w (file_after w s rs) qs)
  unfolding file_after has_ended
  file-joined [] s = refl
  file-joined (r ∷ rs) s = by-test (eqb (answer_of w s r) 1) (λ t. rw t) (λ t. rw t (file-joined rs (w.leaves s r)))

  ended-joined : (rs : List (List ℕ)) (s : List ℕ) → has_ended w s (rs ++ qs) ≡ cond (has_ended w s rs) true (has_ended w (file_after w s rs) qs)
  unfolding file_after has_ended
  ended-joined [] s = refl
  ended-joined (r ∷ rs) s = by-test (eqb (answer_of w s r) 1) (λ t. rw t) (λ t. rw t (ended-joined rs (w.leaves s r)))

pub taken-in-parts : InParts
taken-in-parts w s a b n e =
    let j = records-joined n a b e in (
      ap (answers_to w s) j ∙ answers-joined w (records b) (records a) s,
      ap (file_after w s) j ∙ file-joined w (records b) (records a) s,
      ap (has_ended w s) j ∙ ended-joined w (records b) (records a) s,
    )

-- ---- chunk after chunk

abbrev J : Way
J = judged_before

-- the first chunk is the last: it ends the reading, or there is no more
last-ended : (s a b : List ℕ) (k : ℕ) → length a ≡ k * 10 → has_ended J s (records a) ≡ true
    → answers_to J s (records a) ++ file_after J s (records a) ≡ output_of J s (a ++ b)
last-ended s a b k e h =
    let q = taken-in-parts J s a b k e in
    let x : answers_to J s (records (a ++ b)) ≡ answers_to J s (records a) = q.0 ∙ rw h (append-nil (answers_to J s (records a))) in
    let y : file_after J s (records (a ++ b)) ≡ file_after J s (records a) = q.1 ∙ rw h in
    sym (ap₂ (λ (u v : List ℕ). u ++ v) x y)

goes_on : (s a b : List ℕ) (k : ℕ) → length a ≡ k * 10 → has_ended J s (records a) ≡ false
    → answers_to J s (records a) ++ output_of J (file_after J s (records a)) b ≡ output_of J s (a ++ b)
goes_on s a b k e h =
    let q = taken-in-parts J s a b k e in
    let t : List ℕ = file_after J s (records a) in
    let x : answers_to J s (records (a ++ b)) ≡ answers_to J s (records a) ++ answers_to J t (records b) = q.0 ∙ rw h in
    let y : file_after J s (records (a ++ b)) ≡ file_after J t (records b) = q.1 ∙ rw h in
    sym (ap₂ (λ (u v : List ℕ). u ++ v) x y ∙ append_assoc (answers_to J s (records a)) (answers_to J t (records b)) (file_after J t (records b)))

pub chunks-are : (n size k : ℕ) → size ≡ k * 10 → 0 < size → (s p : List ℕ) → length p < n * size → chunks n size s p ≡ output_of J s p
unfolding chunks
chunks-are zero size k e h s p l = absurd (omega arith)
chunks-are (suc n) size k e h s p l = by_cases (dec_lt (length p) size) short (long (λ t q m. chunks-are n size k e h t q m))
  where
    short : length p < size → chunks (suc n) size s p ≡ output_of J s p
    short m =
        let z : take size p ≡ p = take_all size p (omega arith) in
        let t : ltb (length p) size ≡ true = lt-ltb (length p) size m in
        rw (z, t, or-true (has_ended J s (records p)))

    long : ((t q : List ℕ) → length q < n * size → chunks n size t q ≡ output_of J t q) → (length p < size → ⊥) → chunks (suc n) size s p ≡ output_of J s p
    long further m =
        let j : length (take size p) ≡ size = length-take-le size p (omega arith) in
        let t : ltb (length (take size p)) size ≡ false = le-ltb (length (take size p)) size (omega (arith, j)) in
        by-test (has_ended J s (records (take size p)))
        (λ x. rw x (last-ended s (take size p) (drop size p) k (j ∙ e) x ∙ ap (output_of J s) (take-append-drop size p)))
        (λ x. rw (x, t)
        (ap (λ (u : List ℕ). answers_to J s (records (take size p)) ++ u)
        (further (file_after J s (records (take size p))) (drop size p) (omega (arith, length-drop size p)))
        ∙ goes_on s (take size p) (drop size p) k (j ∙ e) x ∙ ap (output_of J s) (take-append-drop size p)))

-- ---- the share file in two pieces

module _ (input : List ℕ) where
  pub length-low : 45 ≤ file_length input
  unfolding file_length
  length-low = by-test (leb 45 (length input) && totalled (stripes_in input)) (λ t. rw t (omega arith)) (λ t. rw t (omega arith))

  head-tells : file_length (head_of input) ≡ file_length input
  unfolding file_length
  head-tells = by_cases (dec_lt (length input) 45) (λ h. ap file_length (take_all 45 input (omega arith))) (λ h. full (omega arith))
    where
      full : 45 ≤ length input → file_length (head_of input) ≡ file_length input
      full h =
          let l : length (head_of input) ≡ 45 = length-take-le 45 input h in
          let n : stripes_in (head_of input) ≡ stripes_in input = same_number input (head_of input) 2 39 (λ j m. get_or-take 45 input (39 + j) 0 (omega arith)) in
          rw (n, le-leb 45 (length (head_of input)) (omega (arith, l)), le-leb 45 (length input) h)

  head-short : length input < 45 → (head_of input ≡ input) × (drop 45 input ≡ [])
  head-short h = (take_all 45 input (omega arith), drop_of_length-le input {i = 45} (omega arith))

  left-full : 45 ≤ length input → left_of input ≡ file_length input - 45
  left-full h = ap₂ (λ (x y : ℕ). x - y) head-tells (length-take-le 45 input h)

  pub file-read : file_read input ≡ file_of input
  file-read = by_cases (dec_lt (length input) 45) short (λ h. long (omega arith))
    where
      short : length input < 45 → file_read input ≡ file_of input
      short h =
          ap₂ (λ (x y : List ℕ). x ++ take (left_of input) y) (head-short h).0 (head-short h).1
          ∙ ap (λ (y : List ℕ). input ++ y) (take_all (left_of input) [] (omega arith)) ∙ append-nil input
          ∙ sym (take_all (file_length input) input (omega (arith, length-low)))

      long : 45 ≤ length input → file_read input ≡ file_of input
      long h =
          let e : 45 + (file_length input - 45) ≡ file_length input = omega (arith, length-low) in
          ap (λ (n : ℕ). head_of input ++ take n (drop 45 input)) (left-full h)
          ∙ sym (take-add 45 (file_length input - 45) input) ∙ ap (λ (n : ℕ). take n input) e

  pub rest_read : rest_of input ≡ run_of input
  rest_read = by_cases (dec_lt (length input) 45) short (λ h. long (omega arith))
    where
      short : length input < 45 → rest_of input ≡ run_of input
      short h =
          ap (drop (left_of input)) (head-short h).1 ∙ drop_of_length-le [] {i = left_of input} (omega arith)
          ∙ sym (drop_of_length-le input {i = file_length input} (omega (arith, length-low)))

      long : 45 ≤ length input → rest_of input ≡ run_of input
      long h =
          let e : 45 + (file_length input - 45) ≡ file_length input = omega (arith, length-low) in
          ap (λ (n : ℕ). drop n (drop 45 input)) (left-full h) ∙ drop-drop (file_length input - 45) 45 input ∙ ap (λ (n : ℕ). drop n input) e

-- ---- the program

same-output : (s p : List ℕ) → (file_told s).number ≡ 0 → output_of J s p ≡ output_of by_itself s p
same-output s p e = let q = each-by-itself s (records p) e in ap₂ (λ (x y : List ℕ). x ++ y) q.0 q.1

pub pieces_are : InPieces
unfolding pieces_of program_of
pieces_are input n size k e h l =
    ap₂ (λ (s p : List ℕ). cond (eqb (file_told s).number 0) (chunks n size s p) (refusal s)) (file-read input) (rest_read input)
    ∙ by-test (eqb (file_told (file_of input)).number 0)
    (λ t. rw t
    (chunks-are n size k e h (file_of input) (run_of input) (omega (arith, length-drop (file_length input) input))
    ∙ same-output (file_of input) (run_of input) (eqb-true _ _ t)))
    (λ t. rw t)

pub room-enough : RoomEnough
room-enough p o h e = le-leb (begun (length p) * 2) (length o) (omega (arith, e))
