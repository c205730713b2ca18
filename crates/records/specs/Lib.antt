-- What the promises of this crate cite, and what is demanded of reading.
pub mod Choice
pub mod Kinds
pub mod Reading
pub mod Demand
pub mod Numbers
pub mod Writing
