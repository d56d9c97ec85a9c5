-- What a job and a sub-block cite: both stages on one block.
pub mod Blocks
