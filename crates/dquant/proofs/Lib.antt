-- What a caller cites.
pub mod Calls
-- what a refused call answers and leaves
pub mod Refused
