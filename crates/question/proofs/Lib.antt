-- What the proofs of everything that asks share.
pub mod Questions
pub mod Shapes
