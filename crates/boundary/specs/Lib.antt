-- What a caller hands in, and what it is told.
pub mod Given
pub mod Told
