-- What crosses the boundary to C.
pub mod Boundary
