pub mod Counted
pub mod Views
pub mod Keeps
pub mod Drawn
pub mod Stations
pub mod Slots
