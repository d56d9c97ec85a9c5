-- The laws of the sums of 16 lines.

-- a lane as a line, and what a store leaves of it
pub mod AsLine
-- how large the sums are
pub mod Bounds
-- what the helpers' steps give
pub mod Steps
-- a pass over the lanes, and where the last one ends
pub mod Passes
-- which size the places of the sums say
pub mod Sizes
