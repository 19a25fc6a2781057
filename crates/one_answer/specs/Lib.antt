pub use Rattle.report_spec.specs.Report
pub use Rattle.report_spec.specs.Graph
pub use Rattle.cache_spec.specs.Blocks
pub mod Alike
