-- The definitions that the contracts of `words` cite.
pub mod Layout
pub mod Scan
pub mod Stores
pub mod Journal
pub mod Cells
