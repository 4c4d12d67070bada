pub mod Numbered
pub mod Names
pub mod Lengths
