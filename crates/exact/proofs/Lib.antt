-- The theorems of the exact table (`Theorem`), of a run's gates (`Runs`), of its witnesses
-- (`Witness`) and of the proved cases (`Cases`), and the laws of a gate's weight (`WeighedLaws`);
-- `NewNumbers`, `OneCall` and `OneGate` prove them. They stand here, so that a wrong definition of
-- specs/ is refused by them.
mod NewNumbers
mod OneCall
mod OneGate
pub mod Theorem
pub mod Runs
pub mod Witness
pub mod Cases
pub mod WeighedLaws
