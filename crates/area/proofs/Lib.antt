-- Lists and parts of them.
pub mod Lists
pub mod Parts
pub mod Weights
