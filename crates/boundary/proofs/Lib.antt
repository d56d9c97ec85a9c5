-- Laws of what a caller is told.
pub mod Told
