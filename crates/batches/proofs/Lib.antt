-- The laws of batches: Bools tests joined, Fields a field of each record as a list, Alike what refusal 8 tests, Ladder which reason decides,
-- Judging the faults of one batch, Records the D records that are written, Turns the batches of a file in turn, Answers what is told and left.
pub mod Bools
pub mod Fields
pub mod Alike
pub mod Ladder
pub mod Judging
pub mod Records
pub mod Turns
pub mod Answers
