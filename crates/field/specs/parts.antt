-- What functions on symbols ask and promise: the q in use, results, the lists and the table that products come from, lists of symbols as sequences.
pub mod Products
pub mod Sequences
pub mod Operations
