-- The laws of share files.
pub mod Parts
pub mod Below
pub mod Answers
pub mod Stripes
pub mod Ladder
pub mod Changes
pub mod Faults
pub mod Runs
pub mod Sizing
pub mod Fresh
pub mod Accepted
pub mod Kept
pub mod Worked
pub mod Amended
