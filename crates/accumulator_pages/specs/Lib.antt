pub mod Adding
pub mod View
pub mod Pages
pub mod Reached
