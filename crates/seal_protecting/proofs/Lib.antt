pub mod Protecting
pub mod OneAnswer
