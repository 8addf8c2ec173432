-- What the public calls promise, in 01's order and words.
pub mod Encoding
pub mod Decoding
pub mod Demand3
pub mod Woven
pub mod Orders
pub mod Sample
pub mod parts
