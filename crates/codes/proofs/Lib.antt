-- The laws of codes. In general: Bools, First, Symbols, Arrays. Refusals: Told, the ladder. The judge: Tests, Pairs, Rules, Only. Numbers: Sizes, and FillOrder the cell of a symbol.
-- The general form of the construction: Places (the triangle), Blocks, General (fill and read), Moved; Mbr, Msr and Matrix show the kinds
-- to be instances. From it Linear, Slip; Apart, Rebuilt, Gathered and Run carry it to rebuilding and collecting.
pub mod Bools
pub mod First
pub mod Symbols
pub mod Arrays
pub mod Told
pub mod Tests
pub mod Pairs
pub mod Rules
pub mod Only
pub mod Sizes
pub mod FillOrder
pub mod Places
pub mod Blocks
pub mod General
pub mod Moved
pub mod Mbr
pub mod Msr
pub mod Matrix
pub mod Linear
pub mod Slip
pub mod Apart
pub mod Rebuilt
pub mod Gathered
pub mod Run
