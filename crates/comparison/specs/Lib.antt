pub mod Comparison
pub mod Laws
