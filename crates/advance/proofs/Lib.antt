-- Laws that belong to no one function.
pub mod Turning
pub mod Choosing
pub mod Bits
pub mod Found
pub mod Blocks
pub mod Listing
pub mod Giving
pub mod Noting
pub mod Given
pub mod Performing
pub mod Advanced
pub mod Asked
