pub mod Rules
pub mod Forms
pub mod Answers
pub mod Boundaries
