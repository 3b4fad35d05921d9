pub mod Checking
pub mod Private
