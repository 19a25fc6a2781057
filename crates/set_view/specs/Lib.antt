pub use Rattle.focus_spec.specs.Focus
pub mod View
pub mod Places
