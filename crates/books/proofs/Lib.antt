-- The laws of books and of answers.
pub mod Sheet
pub mod Ladders
pub mod Settled
pub mod Judged
