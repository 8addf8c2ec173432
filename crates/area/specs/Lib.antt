-- Lists as areas hold them.
pub mod Lists
pub mod parts
