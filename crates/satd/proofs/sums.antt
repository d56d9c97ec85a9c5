-- Laws that several proofs of src/sums.rt need.
pub mod Standing
