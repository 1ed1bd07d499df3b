pub mod Weighing
pub mod Windowing
pub mod Sizing
pub mod Forming
pub mod Reading
