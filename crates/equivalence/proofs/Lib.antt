pub mod Tallies
pub mod Comparing
pub mod Yielding
pub mod Agreeing
pub mod Example
