pub mod Holding
pub mod Answering
pub mod Finding
pub mod Appending
pub mod Trips
