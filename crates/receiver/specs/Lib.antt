pub mod Receiver
pub mod Levels
pub mod Boundaries
pub mod Example
pub mod LevelsExample
