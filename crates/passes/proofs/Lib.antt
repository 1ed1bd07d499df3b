pub mod Writing
pub mod Growing
pub mod Running
pub mod Turning
pub mod Whole
pub mod Levels
pub mod Answering
pub mod Below
