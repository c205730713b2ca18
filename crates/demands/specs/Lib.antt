-- The demands of document 01. Demand 1: Words (which reason decides), Inputs (what can be wrong with inputs), Judge (the judge's reasons),
-- Answer (the demand, once for all), Stripes (the four operations on a stripe), Files (share files and books), Batches (rebuilding from H records),
-- Crossing (the outside boundary).
-- Demand 2: Rebuild, Collect, and Honest, the demand on a rebuild and on a collection; HonestBatch, the demand on a rebuild from H records;
-- Stored, the demand on all operations on a stripe.
-- Demand 3: History. Equal: two answers that meet a promise are equal.
pub mod Words
pub mod Inputs
pub mod Judge
pub mod Answer
pub mod Stripes
pub mod Files
pub mod Batches
pub mod Crossing
pub mod Rebuild
pub mod Collect
pub mod Honest
pub mod Stored
pub mod History
pub mod HonestBatch
pub mod Equal
