-- The laws, and what follows from them over any field. Each file uses only those above it.
pub mod Laws
pub mod HasOrder
pub mod Sums
pub mod Powers
pub mod Polynomials
pub mod Pairing
pub mod Weights
pub mod Distance
pub mod Synthesis
pub mod Naturality
pub mod Below
pub mod Tests
