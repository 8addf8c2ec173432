-- What functions on areas promise the layers above.
pub mod Weights
