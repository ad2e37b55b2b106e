pub mod Separators
pub mod Lists
pub mod Agreement
pub mod Texts
