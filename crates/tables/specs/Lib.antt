-- What the contracts say of the tables.
pub mod parts
