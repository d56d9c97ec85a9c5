-- What the contracts of the crates that compare blocks cite, beyond document 01's own definitions (evc/specs) and those of plane_tests.
pub mod Totals
pub mod Edges
pub mod Small
pub mod Rows
