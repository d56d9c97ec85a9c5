-- What this crate's contracts and laws cite, beyond document 01's own definitions (evc/specs).
pub mod Both
pub mod Blocks
