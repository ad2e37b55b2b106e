pub mod Sums
pub mod Turns
