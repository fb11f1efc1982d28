-- The laws of `commit`.
pub mod Deciding
pub mod Merging
pub mod Counting
pub mod Committed
