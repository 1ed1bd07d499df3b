pub mod Answers
pub mod Written
pub mod RoundTrip
pub mod Private
