-- What the promises of this crate cite.
pub mod Length
pub mod Ready
pub mod Stream
pub mod Program
pub mod Claims
