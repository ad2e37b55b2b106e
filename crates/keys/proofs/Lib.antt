pub mod Made
pub mod Installed
pub mod Boundaries
pub mod OneAnswer
