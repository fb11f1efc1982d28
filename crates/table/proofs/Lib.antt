-- Laws that belong to no one function.
pub mod Listed
pub mod Entry
pub mod Made
pub mod Rule
pub mod Agree
pub mod Single
pub mod Marks
pub mod Seconds
pub mod Parts
pub mod Passing
pub mod Decided
pub mod Pairs
pub mod Checks
pub mod Head
pub mod Entries
