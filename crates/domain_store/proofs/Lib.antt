-- The laws of `domain_store`.
pub mod Telling
