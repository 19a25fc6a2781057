pub mod Valid
pub mod Always
