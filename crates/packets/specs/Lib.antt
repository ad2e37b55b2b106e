pub mod Packet
pub mod Sealable
pub mod Effects
pub mod LevelsApart
