-- What the inner functions' contracts need beyond document 01's definitions, which stand in the crate evc.
pub mod Pairs
pub mod Told
