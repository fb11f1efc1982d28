-- The definitions that the contracts of `add` cite.
pub mod Add
pub mod Ready
pub mod Walking
pub mod Asked
pub mod Took
pub mod Choice
