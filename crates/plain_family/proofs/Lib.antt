pub mod Order
pub mod Smaller
pub mod Walk
