pub mod Cases
pub mod Examples
pub mod Uneven
