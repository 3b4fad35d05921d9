pub mod Compose
pub mod Digits
pub mod Moves
