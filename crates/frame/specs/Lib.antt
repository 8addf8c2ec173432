-- What reading a window and a frame promise one another.
pub mod parts
