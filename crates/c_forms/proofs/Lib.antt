pub mod Answering
pub mod Numbered
