-- Laws that several proofs of src/diff.rt need.
pub mod Differing
