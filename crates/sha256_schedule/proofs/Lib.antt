pub mod Parts
pub mod Latest
pub mod OneAnswer
