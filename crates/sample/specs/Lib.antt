pub mod Bounded
pub mod Sampled
pub mod Leftovers
pub mod Between
