pub use Rattle.cache_spec.specs.Geometry
pub use Rattle.cache_spec.specs.Lru
pub use Rattle.cache_spec.specs.Distinct
pub mod LruSet
pub mod Slots
