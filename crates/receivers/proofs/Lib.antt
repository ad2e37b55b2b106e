pub mod Receivers
pub mod Openings
pub mod Spaces
