pub mod Field
pub mod Box
