-- What the display and marks promise, in 01's words.
pub mod Display
pub mod Marks
