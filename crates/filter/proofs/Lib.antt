pub mod Measuring
pub mod Widths
pub mod Filling
pub mod Axes
