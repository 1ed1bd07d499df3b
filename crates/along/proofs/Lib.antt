pub mod Modulo
pub mod Orders
pub mod Carrying
pub mod Rows
pub mod Backwards
pub mod Boxes
pub mod Answers
pub mod Loading
