pub mod Filled
pub mod Parts
pub mod Unprotecting
pub mod RoundTrip
pub mod AesGcmLaws
