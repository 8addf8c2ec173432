-- Frames woven against bursts (02, #104).
pub mod Weaving
pub mod parts
