-- Reading one record, in document 01's words.
--
--     end_at file place            where the body ends of a record that stands at the place: one byte of kind, then the body
--     whole file place            the test: a record of a known kind stands at the place, and is not cut short
--     whole_as file place kind     the same, and the record is of that kind
--     Read                        what a reading answers: what was found, or that no record stands there
--     found start end next, no_record place     the two answers
--     answered t file place       the answer: the body at the place where the test t holds, else the refusal there
--     read_at file place           what reading gives
--     read_as file place kind      what reading gives where a kind is expected
--     Told                        an answer in document 01's terms: its number, its pair, and the places that it names
--     told answer                 number, pair and places of each case of an answer
--     told_by t file place         what is told by the test t: done with a body's places, or refusal 1 with the place
--     told_at, told_as              what read_at and read_as are to tell
--     body_at file start end       the bytes from start to end, none where start is past end or end is past the file
use Rattle.std.specs.Prelude.{Bool, true, false, ◌&&◌, not, List, [], ◌∷◌, ℕ, ◌+◌, ◌-◌, leb, ltb, eqb, length, get_or, take, drop, Result, Ok, Err}
use Rattle.records.specs.Choice.{pick}
use Rattle.records.specs.Kinds.{body_of}
use Rattle.records.specs.declared.reading.Found.{Found}
use Rattle.records.specs.declared.reading.NoRecord.{NoRecord}

abbrev pub end_at : List ℕ → ℕ → ℕ
end_at file place = place + 1 + body_of (get_or file place 0)

unfoldable pub whole : List ℕ → ℕ → Bool
whole file place = ltb place (length file) && not (eqb (body_of (get_or file place 0)) 0) && leb (end_at file place) (length file)

abbrev pub whole_as : List ℕ → ℕ → ℕ → Bool
whole_as file place kind = whole file place && eqb (get_or file place 0) kind

abbrev pub Read : Type 0
Read = Result Found NoRecord

abbrev pub found : ℕ → ℕ → ℕ → Read
found start end next = Ok (record { start = start; end = end; next = next })

abbrev pub no_record : ℕ → Read
no_record place = Err (record { place = place })

abbrev pub answered : Bool → List ℕ → ℕ → Read
answered true file place = found (place + 1) (end_at file place) (end_at file place)
answered false file place = no_record place

abbrev pub read_at : List ℕ → ℕ → Read
read_at file place = answered (whole file place) file place

abbrev pub read_as : List ℕ → ℕ → ℕ → Read
read_as file place kind = answered (whole_as file place kind) file place

pub data Told : Type 0 where
  telling : (number first second : ℕ) → (values : List ℕ) → Told

abbrev pub told : Read → Told
told (Ok b) = telling 0 0 0 (b.start ∷ b.end ∷ b.next ∷ [])
told (Err n) = telling 1 0 0 (n.place ∷ [])

abbrev pub told_by : Bool → List ℕ → ℕ → Told
told_by true file place = telling 0 0 0 ((place + 1) ∷ end_at file place ∷ end_at file place ∷ [])
told_by false file place = telling 1 0 0 (place ∷ [])

abbrev pub told_at : List ℕ → ℕ → Told
told_at file place = told_by (whole file place) file place

abbrev pub told_as : List ℕ → ℕ → ℕ → Told
told_as file place kind = told_by (whole_as file place kind) file place

abbrev pub body_at : List ℕ → ℕ → ℕ → List ℕ
body_at file start end = pick (leb start end && leb end (length file)) (take (end - start) (drop start file)) []
