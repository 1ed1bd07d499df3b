pub mod Compared
pub mod Tally
pub mod Yields
pub mod Agreement
pub mod Example
