-- What moving symbols promises the calls.
pub mod Columns
