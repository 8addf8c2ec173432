-- The block step's promise (Step), and what its functions promise one another.
pub mod parts
