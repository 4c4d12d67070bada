pub mod Estimates
pub mod Passes
pub mod Laws
