-- Laws that several proofs of src/satd.rt need.
pub mod Ends
