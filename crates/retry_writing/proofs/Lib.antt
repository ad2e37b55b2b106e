pub mod Packets
pub mod Refusals
pub mod Promises
pub mod OneAnswer
