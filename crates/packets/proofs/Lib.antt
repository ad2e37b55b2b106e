pub mod Sealing
pub mod Opening
pub mod OpenedBack
