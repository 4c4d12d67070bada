pub mod Addresses
pub mod Merging
pub mod Pairs
pub mod Records
pub mod Sorting
pub mod Laws
pub mod Walks
