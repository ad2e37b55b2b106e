pub mod Roots
pub mod OneAnswer
