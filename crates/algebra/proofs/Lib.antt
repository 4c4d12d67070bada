-- `Ring`: the prover of identities; `Laws`: what is promised of gates and of ℤ's product. They stand
-- here, so that a wrong definition of specs/ is refused by them.
pub mod Ring
pub mod Laws
mod Examples
