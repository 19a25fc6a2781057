pub mod Steps
pub mod FieldEnds
pub mod Numbers
pub mod Addresses
pub mod Ways
pub mod Said
pub mod Subjects
pub mod Lines
