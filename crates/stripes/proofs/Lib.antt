-- The laws of stripes: Tests over lists, Vectors and Grids in arrays, Shapes of codes, Lent rows and tables, Ladder of refusals.
pub mod Tests
pub mod Vectors
pub mod Grids
pub mod Shapes
pub mod Lent
pub mod Ladder
