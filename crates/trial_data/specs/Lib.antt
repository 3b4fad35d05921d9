pub mod Examples
pub mod Generator
pub mod Trials
pub mod Private
