-- The definitions that the contracts of `advance` cite.
pub mod Advance
pub mod Choice
pub mod Notes
