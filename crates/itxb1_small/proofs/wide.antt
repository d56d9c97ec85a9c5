-- The sums of a line: the halving step with a number added.
pub mod Raised
