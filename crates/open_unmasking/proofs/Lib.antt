pub mod Masking
pub mod Parts
pub mod OneAnswer
