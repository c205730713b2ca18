pub mod Squares
pub mod Gather
pub mod Collect
