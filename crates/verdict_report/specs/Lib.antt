pub use Rattle.report_spec.specs.Text
pub use Rattle.report_spec.specs.Valid
pub use Rattle.report_spec.specs.HasText
pub mod Extends
pub mod Seen
pub mod Reading
