pub mod Windows
pub mod Private
