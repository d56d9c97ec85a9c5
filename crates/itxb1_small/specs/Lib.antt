-- What the helpers of stage two promise each other: the sums of a line, the sizes that go line after line, and lines that go together.
pub mod Sums
pub mod Sizes
pub mod Groups
