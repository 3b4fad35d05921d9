pub mod Collections
pub mod Examples
pub mod Pairs
pub mod OneList
pub mod ListTerms
pub mod Bounds
pub mod Private
