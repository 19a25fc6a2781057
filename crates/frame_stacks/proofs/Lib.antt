pub mod Made
pub mod Indexed
pub mod Ends
pub mod Compared
pub mod Parted
