-- What functions promise one another.
pub mod Frames
pub mod Writing
