-- `Laws` is what a crate above may cite of the definitions of specs/; the other modules prove it. They
-- stand here, so that a wrong definition of specs/ is refused by them.
mod Sizes
mod Whole
mod Exact
mod Compare
mod Verdicts
mod Equal
mod PatternLaws
pub mod Laws
