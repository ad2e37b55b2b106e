pub mod Versions
pub mod OneAnswer
