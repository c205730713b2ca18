-- Demand 1, proved. Says and Inputs: tests and the words for them. Words: from tests to words. Judge, Answer, Stripes, Reading, Files, Batches: the operations.
-- Crossing: the outside boundary.
-- Fixed, FixedFiles: what meets it is one answer. Demand 2, proved: Collect, Honest, Stored, HonestBatch. WrongStripes: what does not meet it.
-- Demand 3, proved. Books, Taken, Touched: slips. Joined, Helpers, Renewed: rebuilding. Sent: what our operations give.
-- History: the demand. Wrong: what does not meet it. WrongFiles: wrong programs on share files, written out.
-- Two answers that meet a promise are equal. Only: what an answer says fixes it. EqualField, EqualRecords, EqualCodes, EqualStripes, EqualFiles, EqualReaders, EqualTriples, EqualStreams,
-- EqualBoundary: a theorem for each public function. A new public function has its theorem in the file of its crate.
pub mod Says
pub mod Inputs
pub mod Words
pub mod Judge
pub mod Answer
pub mod Stripes
pub mod Reading
pub mod Files
pub mod Batches
pub mod Crossing
pub mod Fixed
pub mod FixedFiles
pub mod Only
pub mod Collect
pub mod Honest
pub mod Stored
pub mod Books
pub mod Taken
pub mod Touched
pub mod Joined
pub mod Helpers
pub mod HonestBatch
pub mod Renewed
pub mod Sent
pub mod History
pub mod Wrong
pub mod WrongStripes
pub mod WrongFiles
pub mod EqualField
pub mod EqualRecords
pub mod EqualCodes
pub mod EqualStripes
pub mod EqualFiles
pub mod EqualBoundary
pub mod EqualReaders
pub mod EqualTriples
pub mod EqualStreams
