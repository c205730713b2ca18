-- What the reader answers from outside.
--   number_of x          document 01's number of what was read: 0 for a body, and 1 for a refusal
--   start_of, end_of      where the body starts and ends, and 0 on a refusal
--   next_of              the next place, and on a refusal the place that was asked
--   Shows r x           the record r, as it crosses, shows what was read, x, in each field
-- Assumes nothing.
use Rattle.std.specs.Prelude.{◌≡◌, ℕ}
use Rattle.std.specs.Prelude.{Ok, Err}
use Rattle.records.specs.Reading.{Read}
use Rattle.corkpaddle.specs.declared.reader.Record.{Record}

abbrev pub number_of : Read → ℕ
number_of (Ok f) = 0
number_of (Err e) = 1

abbrev pub start_of : Read → ℕ
start_of (Ok f) = f.start
start_of (Err e) = 0

abbrev pub end_of : Read → ℕ
end_of (Ok f) = f.end
end_of (Err e) = 0

abbrev pub next_of : Read → ℕ
next_of (Ok f) = f.next
next_of (Err e) = e.place

pub record Shows (r : Record) (x : Read) : Type 0 where
  pub number : r.number ≡ number_of x
  pub start : r.start ≡ start_of x
  pub end : r.end ≡ end_of x
  pub next : r.next ≡ next_of x
