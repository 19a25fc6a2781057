pub use Rattle.transition_spec.specs.Layer
pub use Rattle.flow_spec.specs.Acceptance
pub use Rattle.path_model.specs.Graph
pub use Rattle.frame_stacks.specs.Stacks
pub mod Expansion
pub mod Point
pub mod Numbers
pub mod Search
