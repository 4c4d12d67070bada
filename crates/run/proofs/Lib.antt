pub mod Taking
pub mod Turns
