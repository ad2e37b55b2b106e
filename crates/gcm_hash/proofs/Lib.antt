pub mod Adding
pub mod Loading
pub mod Stream
pub mod OneAnswer
