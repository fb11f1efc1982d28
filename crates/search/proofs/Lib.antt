-- Laws that belong to no one function.
pub mod From
pub mod Keys
pub mod Anywhere
pub mod Inwards
pub mod Value
pub mod Behind
pub mod Holding
pub mod Free
pub mod Taking
pub mod Domain
pub mod Counts
pub mod TakenOut
