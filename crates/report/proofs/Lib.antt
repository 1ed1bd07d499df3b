pub mod Checks
pub mod Fronts
pub mod Rows
pub mod Ending
pub mod Printing
