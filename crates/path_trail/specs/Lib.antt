pub use Rattle.transition_spec.specs.Path
pub use Rattle.path_model.specs.Graph
pub use Rattle.transition_spec.specs.Named
pub mod Trail
pub mod Ways
