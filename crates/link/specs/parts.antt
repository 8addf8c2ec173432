-- What the functions below the public calls promise one another.
pub mod Sending
pub mod Restoring
pub mod WovenFrames
