-- What the helpers' contracts cite. The tiles' own definitions are evc's (specs/Tiles.antt).
pub mod Passes
