-- The laws of the table: `use Rattle.itx_table.proofs.Rule.{..}` in a crate that lists table.
pub mod Stored
pub mod Rule
pub mod Mirror
pub mod ColumnSums
