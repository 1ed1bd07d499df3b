pub mod Inside
pub mod Readings
pub mod Grays
pub mod Leftovers
pub mod Between
