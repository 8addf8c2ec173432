-- The questions in 01's order and words; the refusals, and the answers that they stand for.
pub mod Questions
pub mod Refusals
pub mod parts
