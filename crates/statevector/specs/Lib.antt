pub mod Refusals
pub mod States
pub mod Tests
pub mod Endings
pub mod Scans
pub mod Answers
pub mod Laws
