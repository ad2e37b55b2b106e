pub mod LongHeaders
pub mod OneAnswer
