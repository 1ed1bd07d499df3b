pub mod Along
pub mod Private
