pub mod ByBits
pub mod Blocks
pub mod Sealing
