pub mod Forms
pub mod IntegersBack
