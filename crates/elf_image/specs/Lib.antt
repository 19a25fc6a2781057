pub mod Fits
pub mod Among
pub mod Tests
