-- The definitions that the contracts of `domain_store` cite.
pub mod Boundary
