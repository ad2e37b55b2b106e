pub mod Entries
pub mod Bytes
pub mod OneAnswer
