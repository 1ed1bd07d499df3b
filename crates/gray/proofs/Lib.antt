pub mod Dividing
pub mod Grays
pub mod Leftovers
