pub mod PowerTable
pub mod Growth
pub mod Laws
