-- What the desk does with a text and in one turn; in `parts`, what its functions promise one another.
pub mod Texts
pub mod Turns
pub mod parts
pub mod Sample
