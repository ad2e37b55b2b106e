pub mod Recovery
pub mod OneAnswer
