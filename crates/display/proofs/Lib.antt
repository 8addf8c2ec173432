-- What the proofs of the display and of marks share.
pub mod Bits
pub mod Counted
pub mod Display
