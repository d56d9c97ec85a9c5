-- What the contracts of the helpers below src/ cite, beyond document 01's own definitions (evc/specs) and those of plane_tests and block_rows.
pub mod Rests
pub mod Sides
