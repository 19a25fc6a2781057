pub mod Views
pub mod Walk
pub mod Given
pub mod Status
pub mod FaultText
