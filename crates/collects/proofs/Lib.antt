-- The laws of collecting: Squares in arrays, Cells of a message, Gathering the matrix from the shares, Collecting the tests and what follows.
pub mod Squares
pub mod Cells
pub mod Gathering
pub mod Collecting
