pub mod Decided
pub mod Ordered
pub mod Words
