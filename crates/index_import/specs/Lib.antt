pub mod Importing
pub mod Private
