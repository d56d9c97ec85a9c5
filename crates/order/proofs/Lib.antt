-- Laws and theorems of jobs on one buffer. Read OneJob, AnyOrder, ByTheatre, and Examples; the others lead there, and serve the crates above.
pub mod Positions
pub mod Rows
pub mod OneJob
pub mod Steps
pub mod AnyOrder
pub mod ByTheatre
pub mod Examples
