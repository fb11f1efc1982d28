-- The definitions that the contracts of `look` cite.
pub mod Look
