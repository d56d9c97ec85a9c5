-- Laws that several proofs of this crate need.
pub mod Squares
