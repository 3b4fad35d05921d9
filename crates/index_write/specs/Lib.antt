pub mod Chosen
pub mod Saving
pub mod Spelled
pub mod Streaming
pub mod Private
