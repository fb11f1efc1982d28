-- The definitions that the contracts of `restore` cite.
pub mod Restore
pub mod Marks
pub mod Parts
