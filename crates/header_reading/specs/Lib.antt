pub mod PacketHeader
pub mod Answers
