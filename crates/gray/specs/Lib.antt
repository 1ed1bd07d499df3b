pub mod Division
pub mod Rounded
pub mod Leftovers
