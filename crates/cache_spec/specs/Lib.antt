pub mod Geometry
pub mod Lru
pub mod Distinct
pub mod Contents
pub mod Start
pub mod Verdict
pub mod Blocks
