pub mod Stages
pub mod Calls
pub mod Answers
pub mod Private
