pub mod Mentions
pub mod Texts
pub mod Refusals
pub mod Queries
pub mod Reading
pub mod Examples
pub mod Private
pub mod Slices
