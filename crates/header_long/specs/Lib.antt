pub mod LongHeader
pub mod Answers
