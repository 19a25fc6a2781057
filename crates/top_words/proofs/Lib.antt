pub mod Digits
pub mod Hex
pub mod Walked
pub mod ClapOptions
pub mod ClapFaults
