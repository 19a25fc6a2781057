pub mod Distinct
pub mod Others
pub mod Stack
pub mod Starts
