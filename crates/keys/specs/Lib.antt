pub mod Keys
pub mod Laws
pub mod Lists
mod Stores
mod Words
