-- Laws that the proofs of the distortion calls share.
pub mod Far
pub mod SmallSides
pub mod Replies
pub mod Planes
