-- Demand 1 of reading a record: refused exactly when a reason of document 01 holds.
--
--     NoneOf rows byte         the byte is that of none of the rows
--     Ended file place         the place is at or past the end
--     Unknown file place       the byte at the place is none of the six kinds
--     CutShort file place      the body of the record at the place runs past the end
--     Faulty file place        one of the three
--     Demand1 read             the demand, of any reading of a file at a place
--     Inside file place s e n  what is so of a body from s to e with the next place n, read at the place
use Rattle.std.specs.Prelude.{List, [], ◌∷◌, ◌⊎◌, ◌≡◌, ℕ, ◌+◌, ◌≤◌, ◌<◌, length, get_or}
use Rattle.records.specs.Kinds.{Kind, kinds, body_of}
use Rattle.records.specs.Reading.{Read, telling, told, end_at}

abbrev pub NoneOf : List Kind → ℕ → Type 0
NoneOf [] byte = Unit
NoneOf (row ∷ rows) byte = (byte ≡ row.byte → ⊥) × NoneOf rows byte

abbrev pub Ended : List ℕ → ℕ → Type 0
Ended file place = length file ≤ place

abbrev pub Unknown : List ℕ → ℕ → Type 0
Unknown file place = NoneOf kinds (get_or file place 0)

abbrev pub CutShort : List ℕ → ℕ → Type 0
CutShort file place = length file < end_at file place

abbrev pub Faulty : List ℕ → ℕ → Type 0
Faulty file place = Ended file place ⊎ (Unknown file place ⊎ CutShort file place)

pub record Demand1 (read : List ℕ → ℕ → Read) : Type 0 where
  pub refused : (file : List ℕ) (place : ℕ) → Faulty file place → told (read file place) ≡ telling 1 0 0 (place ∷ [])
  pub done : (file : List ℕ) (place : ℕ) → (Faulty file place → ⊥)
      → told (read file place) ≡ telling 0 0 0 ((place + 1) ∷ end_at file place ∷ end_at file place ∷ [])
  pub decided : (file : List ℕ) (place : ℕ) → Faulty file place ⊎ (Faulty file place → ⊥)

pub record Inside (file : List ℕ) (place start end next : ℕ) : Type 0 where
  pub inside : place < length file
  pub start_is : start ≡ place + 1
  pub end_is : end ≡ start + body_of (get_or file place 0)
  pub next-is : next ≡ end
  pub known : body_of (get_or file place 0) ≡ 0 → ⊥
  pub fits : end ≤ length file
