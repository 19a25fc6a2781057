mod Recency
mod Stack
pub mod Renamed
mod Since
pub mod WithNumber
