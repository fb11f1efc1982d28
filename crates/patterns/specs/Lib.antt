-- The definitions that the contracts of `patterns` cite.
pub mod Pattern
