pub mod Entries
pub mod Examples
pub mod Shape
pub mod Private
