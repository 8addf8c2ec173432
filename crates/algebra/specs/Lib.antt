-- Definitions over operations without laws: what a reader of the contracts has to believe of sums, powers, polynomials and distances.
pub mod Ops
pub mod Sum
pub mod Polynomial
pub mod Weight
pub mod parts
