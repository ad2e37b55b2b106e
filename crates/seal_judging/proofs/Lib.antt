pub mod Sizes
pub mod OneAnswer
