-- What is shown of the tables.
pub mod Filled
pub mod Places
pub mod Lending
pub mod Examples
pub mod RowsAdded
