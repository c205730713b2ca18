-- What the promises of this crate cite.
pub mod Cut
pub mod Answer
