-- What functions promise one another: the tables of a setting, and multiples of rows added.
pub mod Rows
pub mod RowsAdded
