-- The area of a job as code computes it: cited here and by the calls. And the first report of two lists of tests.
pub mod Areas
pub mod Chain
