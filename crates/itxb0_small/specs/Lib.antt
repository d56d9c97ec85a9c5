-- How large the sums of stage one are, and which sizes go by straight code.
pub mod Sums
pub mod Sizes
