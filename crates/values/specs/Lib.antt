-- The definitions that the contracts of `values` cite.
pub mod Values
