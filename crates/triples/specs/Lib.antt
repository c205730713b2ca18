pub mod Triples
pub mod Lent
