-- The definitions that the contracts of `store` cite.
pub mod Outcome
pub mod Answer
pub mod Checks
pub mod Lent
pub mod State
pub mod Calls
pub mod Means
