pub mod Adding
pub mod Counting
pub mod Standing
pub mod Untouched
pub mod Raising
pub mod Bits
pub mod NearBits
pub mod Halves
