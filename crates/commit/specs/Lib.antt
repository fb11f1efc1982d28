-- The definitions that the contracts of `commit` cite.
pub mod Commit
pub mod Decide
pub mod Parts
