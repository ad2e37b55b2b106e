pub mod Answers
pub mod OneAnswer
