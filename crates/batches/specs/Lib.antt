-- What the promises of this crate cite.
pub mod Batch
pub mod Whole
pub mod Tests
