-- How a call of SAD ends: laws that the proofs of both SADs share.
pub mod Answered
pub mod Sads
