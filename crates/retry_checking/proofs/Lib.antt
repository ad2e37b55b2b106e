pub mod Refusals
pub mod OneAnswer
