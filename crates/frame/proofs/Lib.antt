-- What the proofs of reading share.
pub mod RebuiltCost
pub mod LevelTried
pub mod LevelsFailed
pub mod Guesses
pub mod Settled
pub mod Advance
pub mod Ends
