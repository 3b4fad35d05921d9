pub mod Examples
pub mod Exports
pub mod Private
