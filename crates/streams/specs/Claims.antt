-- What is proved of the program's core, beyond each function's promise (the proofs are in proofs/Alone.antt and proofs/Chunks.antt).
--   StaysAccepted     an accepted share file stays accepted under any slips
--   EachByItself      in an accepted share file a list of slips, the file judged once, gives what taking each slip by itself gives: the answers, the file
--                     and whether the reading has ended
--   InParts           a run a ++ b taken at once, where a has whole records, is a and then, if the reading has not ended, b
--   InPieces          the program done in pieces (45 bytes, the rest of the file, the judge, chunk after chunk, the file) writes what the definition of
--                     the program says, for every input and every chunk size of whole records. At most n chunks are taken, and the input is shorter
--   RoomEnough        the program's chunk of 40,960 bytes has room for its answers in 8,192
-- Assumes nothing.
use Rattle.std.specs.Prelude.{◌≡◌, true, cond, List, [], ◌++◌, ℕ, ◌*◌, ◌<◌, ◌≤◌, length}
use Rattle.shares.specs.File.{file_told}
use Rattle.streams.specs.Stream.{records, Way, judged_before, by_itself, answers_to, file_after, has_ended, roomy}
use Rattle.streams.specs.Program.{program_of, pieces_of}

abbrev pub StaysAccepted : Type 0
StaysAccepted = (s : List ℕ) (rs : List (List ℕ)) → (file_told s).number ≡ 0 → (file_told (file_after judged_before s rs)).number ≡ 0

abbrev pub EachByItself : Type 0
EachByItself =
    (s : List ℕ) (rs : List (List ℕ)) → (file_told s).number ≡ 0
    → (answers_to judged_before s rs ≡ answers_to by_itself s rs) × (file_after judged_before s rs ≡ file_after by_itself s rs)
    × (has_ended judged_before s rs ≡ has_ended by_itself s rs)

abbrev pub InParts : Type 0
InParts =
    (w : Way) (s a b : List ℕ) (n : ℕ) → length a ≡ n * 10
    → (answers_to w s (records (a ++ b)) ≡ answers_to w s (records a) ++ cond (has_ended w s (records a)) [] (answers_to w (file_after w s (records a)) (records b)))
    × (file_after w s (records (a ++ b)) ≡ cond (has_ended w s (records a)) (file_after w s (records a)) (file_after w (file_after w s (records a)) (records b)))
    × (has_ended w s (records (a ++ b)) ≡ cond (has_ended w s (records a)) true (has_ended w (file_after w s (records a)) (records b)))

abbrev pub InPieces : Type 0
InPieces = (input : List ℕ) (n size k : ℕ) → size ≡ k * 10 → 0 < size → length input < n * size → pieces_of n size input ≡ program_of input

abbrev pub RoomEnough : Type 0
RoomEnough = (p o : List ℕ) → length p ≤ 40960 → length o ≡ 8192 → roomy p o ≡ true
