pub mod Gate
pub mod Passes
pub mod Laws
