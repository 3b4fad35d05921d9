pub mod Lines
pub mod Named
pub mod Parts
pub mod Reading
pub mod Accepting
