-- The code in 01's order and words: the generator, the transmission, the settings, the level codes, windows and fits, demand 3.
pub mod Code
pub mod Generator
pub mod Transmission
pub mod Settings
pub mod Level
pub mod Windows
pub mod Demand3
pub mod parts
