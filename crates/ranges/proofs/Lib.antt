-- Lists of ranges: what they ask for a cell, gathered into a batch, and in the order of the cells.
pub mod Ranges
pub mod Gathered
pub mod Lists
pub mod Least
pub mod Orders
pub mod Parts
