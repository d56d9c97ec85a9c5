-- Laws of the scale.
pub mod Scales
