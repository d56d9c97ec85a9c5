-- What the contract of this crate cites, beyond document 01's own definitions (evc/specs).
pub mod In32
