-- An area that goes four at a time: what the runs of four leave is what one run leaves.
pub mod Fours
