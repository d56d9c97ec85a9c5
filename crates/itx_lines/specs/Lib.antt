-- The sizes that this crate does.
pub mod Sizes
