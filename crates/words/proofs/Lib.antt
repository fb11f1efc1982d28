-- Laws that belong to no one function.
pub mod Scan
pub mod Places
pub mod Plans
pub mod Cells
pub mod Pairs
pub mod Names
pub mod Phases
pub mod Opening
pub mod Journal
pub mod Unread
pub mod Gather
pub mod Image
pub mod Nth
pub mod Copies
