pub mod Opening
pub mod Filling
pub mod Private
pub mod Session
