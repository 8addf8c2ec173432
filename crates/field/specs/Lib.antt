-- The fields of 01, "Two fields and three settings", and of 02, as operations on numbers, and what the contracts say of symbols and of the lent table.
pub mod Numbers
pub mod Modular
pub mod Binary
pub mod Fields
pub mod Symbols
pub mod parts
