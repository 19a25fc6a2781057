pub mod Path
pub mod Layer
pub mod Named
