pub mod Passed
pub mod Climbed
pub mod Steps
pub mod Turned
