pub mod Fields
pub mod Answers
