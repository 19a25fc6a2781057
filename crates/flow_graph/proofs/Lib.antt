pub mod Near
pub mod Refused
