pub mod Options
pub mod Table
pub mod ClapCommand
pub mod Ranges
pub mod Right
