pub mod KeySizes
pub mod Numbered
pub mod OneAnswer
pub mod Reopening
