pub mod Moves
pub mod Fates
pub mod Stop
pub mod Listed
pub mod Layers
pub mod Straight
pub mod Compressed
pub mod OnePath
