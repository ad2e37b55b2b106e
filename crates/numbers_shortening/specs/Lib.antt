pub mod Shortening
pub mod Answers
