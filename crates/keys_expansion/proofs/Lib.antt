pub mod Parts
pub mod OneAnswer
