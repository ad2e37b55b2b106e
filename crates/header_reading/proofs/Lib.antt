pub mod PacketHeaders
pub mod OneAnswer
