pub mod Offset
pub mod Place
pub mod Read
pub mod Refusal
