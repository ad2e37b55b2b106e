pub mod Shortening
pub mod OneAnswer
