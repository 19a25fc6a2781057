pub mod Number
pub mod Header
pub mod Image
pub mod Word
pub mod Parcel
