-- What the proofs of the public calls share.
pub mod Decoding
pub mod Sending
pub mod CountBound
pub mod Determined
pub mod OrderKinds
pub mod Orders
pub mod Demand3
pub mod WovenFrames
pub mod Burst
