pub mod Levels
pub mod Versions
pub mod Answers
