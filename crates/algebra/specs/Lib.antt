pub mod Symbol
pub mod Sums
pub mod Poly
pub mod Frame
pub mod Hollow
pub mod Collect
pub mod Levels
pub mod Bytes
