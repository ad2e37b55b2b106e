pub mod WrittenBack
pub mod OneAnswer
