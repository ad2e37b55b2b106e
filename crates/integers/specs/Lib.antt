pub mod Integer
pub mod Answers
