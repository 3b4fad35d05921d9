pub mod Exponents
pub mod Bounds
pub mod Limits
pub mod Ranges
mod Rising
