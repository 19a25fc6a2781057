pub mod Place
pub mod Ages
pub mod Exists
pub mod Settled
pub mod Jobs
pub mod Sound
