-- The record with a number: what one turn of the loop keeps, and what is told in the end.
--
--     told-nth     what the record with a number tells
--     IsNth        an answer that is what is read for the record with a number n, and tells what that is to tell
--     is_nth       the second follows from the first
--     Way          a reader on the way to the record with the number n: i records are passed, and as many as are left stand from its
--                  place before the record
--     here         what is read where it stands
--     further      so the answer there says what is read for the record, where some are left to be passed
--     way_more     where a record is read, the reader after it is on the way too
--     way_refused  where none is read, that refusal is the answer
--     way_end      where none is left to be passed, the record is the one at its place
use mathlib.Core.Bool.{Bool, true, false}
use mathlib.Core.List.{List, [], ◌∷◌}
use mathlib.Core.Path.{◌≡◌, refl, sym, ap, ◌∙◌}
use Prim.Native.Nat.{ℕ, zero, suc, ◌+◌, ◌-◌, ◌<◌}
use native.Mathlib.Omega.{arith}
use Rattle.std.specs.Prelude.{Ok, Err}
use Rattle.records.specs.Choice.{pick}
use Rattle.records.specs.Reading.{Read, end_at, whole, answered, read_at, telling, told}
use Rattle.records.specs.declared.reading.Found.{Found}
use Rattle.records.specs.declared.reading.NoRecord.{NoRecord}
use Rattle.records.proofs.Whole.{told-answered}
use Rattle.readers.specs.Readers.{answer_of, place_after, step_from, onward, nth_from, nth, told_from, told_nth}
use Rattle.readers.specs.declared.Reader.{Reader}

told-by : (t : Bool) (n : ℕ) (file : List ℕ) (place : ℕ) → ((at : ℕ) → told (nth_from n file at) ≡ told_from n file at)
    → told (onward (answered t file place) (nth_from n file)) ≡ pick t (told_from n file (end_at file place)) (telling 1 0 0 (place ∷ []))
told-by true n file place more = more (end_at file place)
told-by false n file place more = refl

pub told-nth : (n : ℕ) (file : List ℕ) (place : ℕ) → told (nth_from n file place) ≡ told_from n file place
unfolding nth_from told_from
told-nth zero file place = told-answered file place (whole file place)
told-nth (suc n) file place = told-by (whole file place) n file place (told-nth n file)

abbrev pub IsNth : List ℕ → ℕ → Read → Type 0
IsNth file n answer = (answer ≡ nth file n) × (told answer ≡ told_nth file n)

is_nth : (file : List ℕ) (n : ℕ) (answer : Read) → answer ≡ nth file n → IsNth file n answer
is_nth file n answer e = (e, ap told e ∙ told-nth n file 0)

pub record Way (file : List ℕ) (n i : ℕ) (reader : Reader) : Type 0 where
  pub of_file : reader.file.now ≡ file
  pub asked : (left : ℕ) → i + left ≡ n → nth_from left file reader.place ≡ nth file n

module _ {file : List ℕ} {n i : ℕ} {reader : Reader} (w : Way file n i reader) where
  here : answer_of reader ≡ read_at file reader.place
  here = ap (λ (l : List ℕ). read_at l reader.place) w.of_file

  further : (answer : Read) (left : ℕ) → answer_of reader ≡ answer → i + suc left ≡ n → onward answer (nth_from left file) ≡ nth file n
  unfolding nth_from
  further answer left a e = ap (λ (r : Read). onward r (nth_from left file)) (sym a ∙ here) ∙ w.asked (suc left) e

  pub way_more : (f : Found) (next : Reader) → answer_of reader ≡ Ok f → next ≡ (step_from reader).reader → Way file n (i + 1) next
  way_more f next a m =
      record {
        of_file = ap (λ (r : Reader). r.file.now) m ∙ w.of_file;
        asked = λ left e.
            let at : next.place ≡ f.next = ap (λ (r : Reader). r.place) m ∙ ap place_after a in
            ap (λ (place : ℕ). nth_from left file place) at ∙ further (Ok f) left a (omega arith);
      }

  pub way_refused : (e : NoRecord) → i < n → answer_of reader ≡ Err e → IsNth file n (Err e)
  way_refused e h a = is_nth file n (Err e) (further (Err e) (n - (i + 1)) a (omega arith))

  pub way_end : (answer : Read) → i ≡ n → answer ≡ answer_of reader → IsNth file n answer
  unfolding nth_from
  way_end answer h a = is_nth file n answer (a ∙ here ∙ w.asked 0 (omega arith))
