-- What the contracts of the distortion calls' helpers cite, beyond document 01's own definitions (evc/specs).
pub mod Areas
pub mod Blocks
