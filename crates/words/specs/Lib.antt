pub mod Words
pub mod NotNan
pub mod Laws
