-- The laws of the tiles, each of any side.
pub mod Blocks
pub mod Columns
pub mod Lines
pub mod Tiles
pub mod Most
