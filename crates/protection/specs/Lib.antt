pub mod Suite
pub mod Protection
pub mod Clear
pub mod KeyRecord
pub mod Parts
pub mod AesGcm
