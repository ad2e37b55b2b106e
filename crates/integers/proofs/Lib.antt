pub mod Integers
pub mod OneAnswer
