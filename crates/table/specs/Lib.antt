-- The definitions that the contracts of `table` cite.
pub mod Entry
pub mod Checks
pub mod Rule
pub mod Marks
pub mod Changes
