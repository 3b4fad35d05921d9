pub mod Parts
pub mod Sums
pub mod Union
pub mod Private
