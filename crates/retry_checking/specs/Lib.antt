pub mod Retry
pub mod Answers
