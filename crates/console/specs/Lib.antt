pub mod Answers
pub mod Fields
pub mod Files
