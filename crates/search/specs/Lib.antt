-- The definitions that the contracts of `search` cite.
pub mod Search
pub mod Holders
pub mod Free
pub mod Domain
pub mod Writable
