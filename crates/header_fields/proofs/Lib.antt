pub mod Fields
pub mod OneAnswer
