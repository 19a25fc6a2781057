pub use Rattle.focus_spec.specs.Focus
pub use Rattle.focus_spec.specs.Fate
pub mod Plan
pub mod Sparse
pub mod Expand
pub mod Alike
