-- Document 01's whole file: code A, node 2, one stripe, 79 bytes; its slip sent once and twice.
--   code_a         code A;   file_a    the file;   slip_a    its slip;   after_a    the file with count 1 and the symbols 23, 17, 14
--   worked-file   the file is that of the book 1, 2, 3, 4, 5 made afresh
--   worked-slip   the slip is taken once, and sent again it is refused with 9
-- Assumes nothing.
use mathlib.Core.Path.{◌≡◌, refl}
use mathlib.Core.List.{List, [], ◌∷◌, ◌++◌, map}
use Prim.Native.Nat.{ℕ}
use lib.ListN.{replicate}
use Rattle.field.specs.Field.{mul, shifted, double}
use Rattle.field.specs.Field as field
use Rattle.algebra.specs.Symbol.{symbol, ◌⊕◌, ◌⊗◌, 𝟘, 𝟙, pow}
use Rattle.algebra.specs.Sums.{sum}
use Rattle.algebra.specs.Bytes.{table}
use Rattle.records.specs.Kinds.{body_of}
use Rattle.records.specs.Numbers.{number_at, digits}
use Rattle.records.specs.Reading.{whole}
use Rattle.codes.specs.Told.{refused, done, refusal, tell, answered}
use Rattle.codes.specs.First.{first}
use Rattle.codes.specs.Judge.{known, sized, mark, marks, pair_second, pair_first, unused_at, pointed, pair_of, judge_reasons}
use Rattle.codes.specs.Sizes.{alpha, bytes, point}
use Rattle.codes.specs.Places.{start, triangle, up_row, up_col}
use Rattle.codes.specs.Matrix.{mbr, msr, matrix, lane, row_of, col_of}
use Rattle.codes.specs.Body.{symbols_at, code_at}
use Rattle.codes.specs.Share.{share, nudged, slipped}
use Rattle.codes.specs.declared.Code.{Code}
use Rattle.codes.specs.declared.Refusal.TheVariants.{Order}
use Rattle.shares.specs.Fields.{code_record, node_record, stripe_record}
use Rattle.shares.specs.File.{below, spare, stripe_good, node_reasons, file_reasons}
use Rattle.shares.specs.Slip.{slip_faults, slip_reasons, slip_told, taken_in, left_by, slip_leaves}
use Rattle.shares.specs.Afresh.{stripes_from, afresh}

zeros : List ℕ
zeros = replicate 28 0

pub file_a : List ℕ
file_a =
    67 ∷ 1 ∷ 4 ∷ 2 ∷ 3 ∷ 1 ∷ 2 ∷ 3 ∷ 4 ∷ (zeros ++ (78 ∷ 2 ∷ 0 ∷ 1 ∷ 0 ∷ 0 ∷ 0 ∷ 0 ∷ 68 ∷ 0 ∷ 0 ∷ 21 ∷ 16 ∷ 14 ∷ zeros))

pub slip_a : List ℕ
slip_a = 80 ∷ 0 ∷ 0 ∷ 0 ∷ 1 ∷ 0 ∷ 0 ∷ 0 ∷ 1 ∷ 1 ∷ []

pub after_a : List ℕ
after_a =
    67 ∷ 1 ∷ 4 ∷ 2 ∷ 3 ∷ 1 ∷ 2 ∷ 3 ∷ 4 ∷ (zeros ++ (78 ∷ 2 ∷ 0 ∷ 1 ∷ 0 ∷ 0 ∷ 0 ∷ 1 ∷ 68 ∷ 0 ∷ 0 ∷ 23 ∷ 17 ∷ 14 ∷ zeros))

pub code_a : Code
code_a = record { kind = 1; n = 4; k = 2; d = 3; points = map (λ (x : ℕ). record { 0 = x }) (1 ∷ 2 ∷ 3 ∷ 4 ∷ zeros) }

pub worked-file : afresh code_a 2 1 0 (1 ∷ 2 ∷ 3 ∷ 4 ∷ 5 ∷ []) ≡ file_a
unfolding zeros file_a code_a afresh stripes_from code_record node_record stripe_record digits share table matrix mbr msr triangle start alpha bytes point sum symbol ◌⊕◌ ◌⊗◌ 𝟘 𝟙 pow mul shifted double
worked-file = refl

pub worked-slip : (slip_told file_a slip_a ≡ done 1) × (slip_leaves file_a slip_a ≡ after_a) × (slip_told after_a slip_a ≡ refused Order) × (slip_leaves after_a slip_a ≡ after_a)
unfolding zeros file_a slip_a after_a slip_told slip_leaves slip_reasons slip_faults taken_in left_by file_reasons node_reasons judge_reasons stripe_good spare below whole body_of number_at digits answered tell refusal known sized pointed marks mark pair_first pair_second unused_at pair_of first code_at symbols_at alpha bytes slipped nudged lane row_of col_of start up_row up_col point symbol ◌⊗◌ 𝟙 pow mul shifted double field.pow
worked-slip = (refl, refl, refl, refl)
