-- The laws of the boundary: Coded, a code run and what it lets through; Helping, the ladder of a helper's answer; Shown, the reader's record;
-- Misfits, a code run beside a stripe total.
pub mod Coded
pub mod Helping
pub mod Shown
pub mod Misfits
