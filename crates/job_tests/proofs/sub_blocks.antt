-- The tests of a sub-block, group by group.
pub mod Groups
