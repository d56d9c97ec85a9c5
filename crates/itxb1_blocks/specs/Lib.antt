-- What the helpers of stage two promise each other: an input's two halves, and the sums of both put together.
pub mod Halves
