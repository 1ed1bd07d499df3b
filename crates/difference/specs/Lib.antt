pub mod Differenced
pub mod Pairs
