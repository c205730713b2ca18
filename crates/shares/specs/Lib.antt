-- What the promises of this crate cite.
pub mod Fields
pub mod File
pub mod Slip
pub mod Total
pub mod Afresh
