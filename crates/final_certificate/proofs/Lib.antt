pub mod Lists
pub mod Lifting
pub mod Edges
pub mod Steps
pub mod Refuting
pub mod Deciding
pub mod Limits
