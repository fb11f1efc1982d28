-- The laws of `restore`.
pub mod Plan
pub mod Blocks
pub mod Putting
pub mod Ending
pub mod Counting
pub mod Bytes
pub mod Restored
pub mod Cuts
pub mod Ended
pub mod Marking
pub mod Finding
pub mod Writing
pub mod Performed
