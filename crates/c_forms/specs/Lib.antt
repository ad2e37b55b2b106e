pub mod Arguments
pub mod Promises
