-- Document 01's whole file through the program: code A, node 2, one stripe, with its slip sent once and twice.
--   file_a, slip_a, after_a     the file, its slip, and the file with count 1 and the symbols 23, 17, 14
--   worked-program           what the program writes for the file with its slip once and twice, and for no input
-- Assumes nothing.
use mathlib.Core.Path.{◌≡◌, refl}
use mathlib.Core.List.{List, [], ◌∷◌, ◌++◌}
use Prim.Native.Nat.{ℕ}
use lib.ListN.{replicate}
use Rattle.field.specs.Field.{mul, shifted, double}
use Rattle.field.specs.Field as field
use Rattle.algebra.specs.Symbol.{symbol, ◌⊗◌, 𝟙, pow}
use Rattle.records.specs.Kinds.{body_of}
use Rattle.records.specs.Numbers.{number_at, digits}
use Rattle.records.specs.Reading.{whole}
use Rattle.codes.specs.Told.{refusal, tell, answered}
use Rattle.codes.specs.First.{first}
use Rattle.codes.specs.Judge.{known, sized, mark, marks, pair_second, pair_first, unused_at, pointed, pair_of, judge_reasons}
use Rattle.codes.specs.Sizes.{alpha, bytes, point}
use Rattle.codes.specs.Places.{start, up_row, up_col}
use Rattle.codes.specs.Matrix.{lane, row_of, col_of}
use Rattle.codes.specs.Body.{symbols_at, code_at}
use Rattle.codes.specs.Share.{nudged, slipped}
use Rattle.shares.specs.File.{below, spare, stripe_good, node_reasons, file_reasons, file_told}
use Rattle.shares.specs.Slip.{slip_faults, slip_reasons, slip_told, taken_in, left_by, slip_leaves}
use Rattle.streams.specs.Length.{file_length}
use Rattle.streams.specs.Stream.{records_in, answers_to, file_after}
use Rattle.streams.specs.Program.{program_of}

zeros : List ℕ
zeros = replicate 28 0

pub file_a : List ℕ
file_a =
    67 ∷ 1 ∷ 4 ∷ 2 ∷ 3 ∷ 1 ∷ 2 ∷ 3 ∷ 4 ∷ (zeros ++ (78 ∷ 2 ∷ 0 ∷ 1 ∷ 0 ∷ 0 ∷ 0 ∷ 0 ∷ 68 ∷ 0 ∷ 0 ∷ 21 ∷ 16 ∷ 14 ∷ zeros))

pub slip_a : List ℕ
slip_a = 80 ∷ 0 ∷ 0 ∷ 0 ∷ 1 ∷ 0 ∷ 0 ∷ 0 ∷ 1 ∷ 1 ∷ []

pub after_a : List ℕ
after_a =
    67 ∷ 1 ∷ 4 ∷ 2 ∷ 3 ∷ 1 ∷ 2 ∷ 3 ∷ 4 ∷ (zeros ++ (78 ∷ 2 ∷ 0 ∷ 1 ∷ 0 ∷ 0 ∷ 0 ∷ 1 ∷ 68 ∷ 0 ∷ 0 ∷ 23 ∷ 17 ∷ 14 ∷ zeros))

pub worked-program :
    (program_of (file_a ++ slip_a) ≡ 69 ∷ 0 ∷ after_a) × (program_of (file_a ++ (slip_a ++ slip_a)) ≡ 69 ∷ 0 ∷ 69 ∷ 9 ∷ after_a) × (program_of [] ≡ 69 ∷ 1 ∷ [])
unfolding zeros file_a slip_a after_a program_of file_length records_in answers_to file_after file_told slip_told slip_leaves slip_reasons slip_faults taken_in left_by file_reasons node_reasons judge_reasons stripe_good spare below whole body_of number_at digits answered tell refusal known sized pointed marks mark pair_first pair_second unused_at pair_of first code_at symbols_at alpha bytes slipped nudged lane row_of col_of start up_row up_col point symbol ◌⊗◌ 𝟙 pow mul shifted double field.pow
worked-program = (refl, refl, refl)
