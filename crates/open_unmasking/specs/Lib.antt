pub mod Unmasking
pub mod Parts
