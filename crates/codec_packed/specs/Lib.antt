pub mod Giving
pub mod Packing
pub mod Reading
pub mod Private
