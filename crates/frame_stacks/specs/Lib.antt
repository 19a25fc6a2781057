pub mod Stacks
pub mod Numbers
pub mod Parting
