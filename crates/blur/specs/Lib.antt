pub mod Blurred
pub mod Leftovers
pub mod Between
pub mod Rims
