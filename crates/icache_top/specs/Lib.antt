pub mod Lines
pub mod GraphLines
pub mod Answer
pub mod JobRecords
