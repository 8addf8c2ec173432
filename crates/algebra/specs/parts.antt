-- What proofs and contracts of inner functions share, and no reader has to believe.
pub mod Values
