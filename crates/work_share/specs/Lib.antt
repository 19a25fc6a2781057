pub mod Counts
pub mod Rule
pub mod Seat
pub mod Station
