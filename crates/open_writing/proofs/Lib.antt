pub mod Pieces
pub mod OneAnswer
