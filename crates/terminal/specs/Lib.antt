pub mod Blanks
pub mod Pages
