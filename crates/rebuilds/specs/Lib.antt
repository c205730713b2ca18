pub mod Plan
pub mod Weights
pub mod Rebuild
