-- The laws of `look`.
pub mod Placing
pub mod Shown
