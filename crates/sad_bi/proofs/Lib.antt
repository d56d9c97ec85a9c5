-- Laws that several proofs of this crate need.
pub mod LowMark
pub mod Packed
pub mod Cut
pub mod Pairs
pub mod Ends
