pub use Rattle.node_spec.specs.Plan
pub use Rattle.node_spec.specs.Verdict
pub use Rattle.call_expand.specs.Expansion
pub mod Findings
pub mod Lines
