pub mod Boundary
pub mod Help
pub mod Reader
pub mod Totals
