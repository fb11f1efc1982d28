-- The definitions that the contracts of `ranges` cite.
pub mod Ranges
pub mod Batch
pub mod Lists
