-- Laws of the sizes, and of the lines that are gathered.
pub mod Sizes
