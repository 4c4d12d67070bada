pub mod Steps
pub mod Reading
pub mod Answers
pub mod Run
pub mod Trial
pub mod Laws
pub mod Examples
