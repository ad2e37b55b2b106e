pub mod Recovery
pub mod Answers
