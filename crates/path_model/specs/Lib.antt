pub use Rattle.transition_spec.specs.Path
pub use Rattle.cache_spec.specs.Contents
pub mod Graph
pub mod Marks
pub mod Letters
pub mod Follow
pub mod Best
