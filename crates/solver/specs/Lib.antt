pub mod Rows
pub mod Basis
pub mod Passes
