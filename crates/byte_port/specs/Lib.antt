pub mod Count
pub mod Piece
pub mod Sure
pub mod Failing
pub mod Stream
pub mod Calls
pub mod Sent
