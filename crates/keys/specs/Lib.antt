pub mod Sides
pub mod InitialKeys
pub mod InstalledKeys
pub mod Answers
pub mod Boundaries
