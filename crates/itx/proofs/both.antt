-- A block of zeros between the stages, and the two ends of `both_stages`.
pub mod Ends
