pub mod Session
pub mod Laws
pub mod Whole
