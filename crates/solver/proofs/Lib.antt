pub mod Linear
pub mod Points
pub mod Rows
pub mod Solutions
