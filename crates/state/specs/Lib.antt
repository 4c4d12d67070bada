pub mod Fresh
pub mod Lookup
pub mod Sums
pub mod Laws
