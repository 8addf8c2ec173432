-- The laws of the fields, and facts about symbols.
pub mod Xor
pub mod Numbers
pub mod FromPowers
pub mod Lawful
pub mod Binary
pub mod Five
pub mod Eight
pub mod Sixteen
pub mod Laws
pub mod Operations
pub mod ByExponents
pub mod Symbols
pub mod LoopSums
pub mod PolynomialValue
