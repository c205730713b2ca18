-- Laws that belong to no one function. Callers cite them.
mod Flags
pub mod Whole
pub mod Demand
pub mod Bodies
pub mod Digits
pub mod Runs
