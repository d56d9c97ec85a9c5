-- Laws that the proofs of this crate share.
pub mod SubBlocks
