-- What the functions that ask the questions promise their callers.
pub mod Shapes
