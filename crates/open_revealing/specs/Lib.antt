pub mod Revealing
