-- Laws of the sizes.
pub mod Sizes
