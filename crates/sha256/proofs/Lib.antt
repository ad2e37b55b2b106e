pub mod Compression
pub mod Blocks
pub mod Digest
