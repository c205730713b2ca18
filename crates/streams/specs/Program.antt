-- The program `slips`: what it writes for each input, and the pieces in which it does its work.
--   file_of input        the share file at the input's start, whose end is found from the N record;   run_of input     what follows it: the P records
--   output_of w s p      what is written for an accepted share file s and the run p: an E record for each P record, then the share file
--   program_of input     what the program writes: if the share file is refused, that one E record and nothing else
--   refusal s           the E record of a refused share file s
--   head_of, left_of      the first 45 bytes, and how many the share file has after them
--   file_read, rest_of    the share file read in two pieces, 45 bytes and then the rest, and what is left of the input
--   is_last size s run   the chunk run ends the reading, or is not full
--   chunks n size s p   the run p taken in chunks of size bytes, at most n of them, each in the file as the one before has left it. A chunk that ends
--                       the reading, and one that is not full, is the last; then the file is written
--   pieces_of n size input    what is written when the work is done in these pieces
-- Assumes nothing.
use Rattle.std.specs.Prelude.{Bool, ◌||◌, cond, List, [], ◌∷◌, ◌++◌, ℕ, zero, suc, ◌-◌, eqb, ltb, length, take, drop}
use Rattle.shares.specs.File.{file_told}
use Rattle.streams.specs.Length.{file_length}
use Rattle.streams.specs.Stream.{records, Way, judged_before, by_itself, answers_to, file_after, has_ended}

abbrev pub file_of : List ℕ → List ℕ
file_of input = take (file_length input) input

abbrev pub run_of : List ℕ → List ℕ
run_of input = drop (file_length input) input

abbrev pub output_of : Way → List ℕ → List ℕ → List ℕ
output_of w s p = answers_to w s (records p) ++ file_after w s (records p)

abbrev pub refusal : List ℕ → List ℕ
refusal s = 0x45 ∷ (file_told s).number ∷ []

unfoldable pub program_of : List ℕ → List ℕ
program_of input =
    cond (eqb (file_told (file_of input)).number 0) (output_of by_itself (file_of input) (run_of input)) (refusal (file_of input))

abbrev pub head_of : List ℕ → List ℕ
head_of input = take 45 input

abbrev pub left_of : List ℕ → ℕ
left_of input = file_length (head_of input) - length (head_of input)

abbrev pub file_read : List ℕ → List ℕ
file_read input = head_of input ++ take (left_of input) (drop 45 input)

abbrev pub rest_of : List ℕ → List ℕ
rest_of input = drop (left_of input) (drop 45 input)

abbrev pub is_last : ℕ → List ℕ → List ℕ → Bool
is_last size s run = has_ended judged_before s (records run) || ltb (length run) size

unfoldable pub chunks : ℕ → ℕ → List ℕ → List ℕ → List ℕ
chunks zero size s p = []
chunks (suc n) size s p =
    answers_to judged_before s (records (take size p))
    ++ cond (is_last size s (take size p)) (file_after judged_before s (records (take size p)))
    (chunks n size (file_after judged_before s (records (take size p))) (drop size p))

unfoldable pub pieces_of : ℕ → ℕ → List ℕ → List ℕ
pieces_of n size input =
    cond (eqb (file_told (file_read input)).number 0) (chunks n size (file_read input) (rest_of input)) (refusal (file_read input))
