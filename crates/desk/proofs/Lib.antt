-- What the proofs of the desk's functions share.
pub mod Texts
pub mod Turns
