pub mod Measurement
pub mod Passes
pub mod Laws
