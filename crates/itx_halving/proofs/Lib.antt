-- The laws of both stages.

-- a line: the halving of any mirrored table, bounds on its sums, the buffer during a halving step
pub mod Halving
pub mod Bounds
pub mod Step
-- the lines of a buffer: gathered, stored
pub mod Lines
-- document 01's table as an instance
pub mod Instance
-- a line by straight code, and stored
pub mod Straight
pub mod Small
pub mod Rows
-- 16 lines at a time: a block gathered, runs of the output (places, lines, blocks), what a block's sums are
pub mod Gathered
pub mod Places
pub mod Products
-- what callers cite
pub mod Calls
pub mod Taken
pub mod Nobody
pub mod Clip
