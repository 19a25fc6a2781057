pub mod Text
pub mod Valid
pub mod HasText
pub mod Right
pub mod Inner
pub mod Report
pub mod Graph
