-- The laws of slip streams.
pub mod Rooms
pub mod Steps
pub mod Alone
pub mod Ready
pub mod Chunks
pub mod Worked
