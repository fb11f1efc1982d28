-- The laws of `add`: its questions as the code puts them, what they leave, the cells taken in their order, and the call from its stores to what it
-- means, for any choice of places.
pub mod Choices
pub mod Counting
pub mod Chosen
pub mod Filling
pub mod Numbers
pub mod Meaning
pub mod Readied
pub mod Added
pub mod Asking
pub mod Questions
pub mod Listing
pub mod Comparing
pub mod Taken
pub mod Lending
pub mod Still
pub mod Storing
pub mod Lists
