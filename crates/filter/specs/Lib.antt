pub mod Measured
pub mod Answers
pub mod Coefficients
pub mod Axis
