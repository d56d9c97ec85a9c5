-- What the code of this crate promises of the table, and what a table must have for the halving.
pub mod Flat
pub mod Mirror
pub mod Columns
