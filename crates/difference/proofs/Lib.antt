pub mod Nearest
pub mod Planning
pub mod Passes
pub mod Pairs
