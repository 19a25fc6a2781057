pub use Rattle.focus_spec.specs.Fate
pub mod Runs
pub mod Alone
pub mod Expand
pub mod Ways
pub mod Alike
