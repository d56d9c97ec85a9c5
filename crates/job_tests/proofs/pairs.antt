-- Two areas that share a sample, as the code asks it.
pub mod Overlaps
