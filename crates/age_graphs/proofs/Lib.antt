pub mod Views
pub mod Carried
pub mod SparseAges
pub mod RunAges
