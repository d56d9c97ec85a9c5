-- What the sums of 16 lines are, and what the helpers promise each other on the way there.
pub mod Lanes
pub mod Steps
