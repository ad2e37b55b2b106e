pub mod States
pub mod OneAnswer
