-- Laws of the sizes, and what size 8 keeps and clips.
pub mod Sizes
pub mod Quotients
