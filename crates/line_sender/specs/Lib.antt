pub use Rattle.report_spec.specs.Text
pub use Rattle.report_spec.specs.Valid
pub use Rattle.byte_port.specs.Stream
pub use Rattle.byte_port.specs.Calls
pub use Rattle.byte_port.specs.Sent
pub mod Pending
