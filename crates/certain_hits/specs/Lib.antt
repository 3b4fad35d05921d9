pub mod Certain
pub mod Rule
pub mod Private
