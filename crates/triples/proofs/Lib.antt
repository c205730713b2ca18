-- The laws of lists of triples: Unfit lists that are not of d helpers, Listed what the rebuild from a list tells and leaves,
-- Same the same as the rebuild on its columns.
pub mod Unfit
pub mod Listed
pub mod Same
