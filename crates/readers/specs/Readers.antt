-- A reader over a share file, in document 01's words: it holds the file and the place it has reached.
--
--     at_start file             a reader at the file's start
--     moved_to reader place     the reader at another place of its file
--     answer_of reader          what reading gives where the reader stands
--     place_after answer        where a reader stands after an answer: at the next place, or where it was refused
--     Step                      what one step gives: the answer, and the reader after it
--     step_from reader          the step from where the reader stands
--     onward answer go         where a record was read, what go gives at the next place, else the refusal
--     nth_from n file place     what is read at the place once n records are passed, or the first refusal
--     nth file n               the same from the file's start
--     told_from, told_nth        what nth_from and nth are to tell
use Rattle.std.specs.Prelude.{List, [], ◌∷◌, ℕ, zero, suc, Ok, Err}
use Rattle.std.specs.Borrow.{Bor}
use Rattle.records.specs.Choice.{pick}
use Rattle.records.specs.Reading.{Read, end_at, whole, read_at, Told, telling, told_at}
use Rattle.readers.specs.declared.Reader.{Reader}

abbrev pub at_start : Bor (List ℕ) → Reader
at_start file = record { file = file; place = 0 }

abbrev pub moved_to : Reader → ℕ → Reader
moved_to reader place = record { file = reader.file; place = place }

abbrev pub answer_of : Reader → Read
answer_of reader = read_at reader.file.now reader.place

abbrev pub place_after : Read → ℕ
place_after (Ok f) = f.next
place_after (Err e) = e.place

pub record Step : Type 0 where
  pub answer : Read
  pub reader : Reader

abbrev pub step_from : Reader → Step
step_from reader = record { answer = answer_of reader; reader = moved_to reader (place_after (answer_of reader)) }

abbrev pub onward : Read → (ℕ → Read) → Read
onward (Ok f) go = go f.next
onward (Err e) go = Err e

unfoldable pub nth_from : ℕ → List ℕ → ℕ → Read
nth_from zero file place = read_at file place
nth_from (suc n) file place = onward (read_at file place) (nth_from n file)

abbrev pub nth : List ℕ → ℕ → Read
nth file n = nth_from n file 0

unfoldable pub told_from : ℕ → List ℕ → ℕ → Told
told_from zero file place = told_at file place
told_from (suc n) file place = pick (whole file place) (told_from n file (end_at file place)) (telling 1 0 0 (place ∷ []))

abbrev pub told_nth : List ℕ → ℕ → Told
told_nth file n = told_from n file 0
