-- What the desk's functions promise one another.
pub mod Lines
