-- Definitions: `Table`, the exact table of a list of calls; `Cases`, the proved cases; `Runs` and
-- `Witness`, what is said of a run and of the premises; `Weighed`, what is answered of a gate's
-- weight. `Sums`, `Lookups` and `Overflow` are laws that rest on none of them. The theorems over
-- them stand in proofs/.
pub mod Table
pub mod Sums
pub mod Lookups
pub mod Cases
pub mod Runs
pub mod Witness
pub mod Overflow
pub mod Weighed
mod WeighedExamples
