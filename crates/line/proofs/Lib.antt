-- What the proofs of the line's functions share.
pub mod Digits
pub mod Hex
pub mod Forms
pub mod Placed
pub mod Asked
pub mod Frames
pub mod Heads
pub mod Enough
pub mod Determined
pub mod Samples
