pub mod Runs
pub mod OnePass
pub mod Streaming
pub mod Advance
pub mod Taking
