pub mod Calls
pub mod Counting
pub mod Items
