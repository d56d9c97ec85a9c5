-- What the contracts of this crate's helpers cite, beyond document 01's own definitions (evc/specs) and those of plane_tests and block_rows.
pub mod Marks
pub mod Totals
pub mod Near
