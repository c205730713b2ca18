-- The laws of rebuilding: Filling a list in a loop, Weighing symbols by a plan, Answers the ladder of refusals, Rebuilding the tests and what follows.
pub mod Filling
pub mod Weighing
pub mod Answers
pub mod Rebuilding
