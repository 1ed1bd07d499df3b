pub mod Answering
pub mod Leftovers
pub mod Between
pub mod Parts
pub mod Weights
