-- What an accepted job lends of its buffer, and what it leaves: cited by the job and by the components of a sub-block.
pub mod Areas
