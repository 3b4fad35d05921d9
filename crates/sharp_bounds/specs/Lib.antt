pub mod Unseen
pub mod Sharpness
pub mod Out
pub mod Rule
pub mod Examples
pub mod Masks
pub mod Marks
pub mod Private
