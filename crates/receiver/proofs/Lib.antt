pub mod Boundaries
pub mod Receiver
pub mod Levels
pub mod Example
pub mod LevelsExample
