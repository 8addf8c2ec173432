-- Lemmas on woven frames.
pub mod Weaving
pub mod Undoing
