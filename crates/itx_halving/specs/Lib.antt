-- What the helpers of both stages promise each other: the sums of a line, the lines of a buffer, a line by straight code, 16 lines at a time, and
-- which calls are whose.
pub mod Line
pub mod Lines
pub mod Straight
pub mod Blocks
pub mod Taken
