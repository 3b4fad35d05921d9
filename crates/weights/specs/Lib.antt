pub mod Logarithm
pub mod Weighting
pub mod Quantizing
