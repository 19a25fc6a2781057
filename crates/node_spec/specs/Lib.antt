pub use Rattle.report_spec.specs.Right
pub use Rattle.path_model.specs.Graph
pub use Rattle.focus_spec.specs.Fate
pub mod Verdict
pub mod Plan
pub mod Valid
