-- Laws that the crates that compare blocks share.
pub mod Signed
mod Wrapped
pub mod Running
pub mod Cells
pub mod Line
pub mod AtEdges
pub mod Marked
pub mod Tested
