pub use Rattle.node_spec.specs.Plan
pub use Rattle.path_trail.specs.Ways
pub mod Kept
pub mod Befores
pub mod Place
pub mod Sources
pub mod Valid
pub mod Tests
