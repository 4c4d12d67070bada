pub mod Dense
pub mod Passes
pub mod Laws
