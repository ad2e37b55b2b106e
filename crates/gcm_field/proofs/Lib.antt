pub mod Linear
pub mod Words
pub mod OneAnswer
