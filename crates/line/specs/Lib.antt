-- One line at the planning desk, in 01's order and words.
pub mod Characters
pub mod Heads
pub mod Questions
pub mod Answering
pub mod Sample
pub mod parts
