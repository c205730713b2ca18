-- The kinds of record: document 01's table of records, a row for each kind.
--
--     Kind                a row: the kind's byte and the length of its body
--     kinds               the six rows
--     body_in rows byte    the length of the body in the row of that byte, 0 where there is none
--     body_of byte         the same, by the six rows
use Rattle.std.specs.Prelude.{List, [], ◌∷◌, ℕ, eqb}
use Rattle.records.specs.Choice.{pick}

pub record Kind : Type 0 where
  pub byte : ℕ
  pub body : ℕ

abbrev pub kinds : List Kind
kinds =
    record { byte = 0x43; body = 36 } ∷
    record { byte = 0x4E; body = 7 } ∷
    record { byte = 0x44; body = 33 } ∷
    record { byte = 0x50; body = 9 } ∷
    record { byte = 0x48; body = 9 } ∷
    record { byte = 0x45; body = 1 } ∷
    []

abbrev pub body_in : List Kind → ℕ → ℕ
body_in [] b = 0
body_in (row ∷ rows) b = pick (eqb b row.byte) row.body (body_in rows b)

unfoldable pub body_of : ℕ → ℕ
body_of b = body_in kinds b
