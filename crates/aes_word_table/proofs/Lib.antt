pub mod Entries
pub mod OneAnswer
