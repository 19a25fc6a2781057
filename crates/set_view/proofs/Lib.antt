pub mod Rising
pub mod Members
pub mod Locals
pub mod Renamed
pub mod Hits
