pub mod Honest
pub mod Yield
pub mod Run
pub mod Driving
pub mod Advancing
pub mod Taking
