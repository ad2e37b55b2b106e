pub mod Forms
pub mod Rules
pub mod Boundaries
pub mod Values
pub mod OneAnswer
