pub mod Layout
pub mod Reading
pub mod Files
pub mod Acceptance
pub mod Private
