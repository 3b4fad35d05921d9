pub mod Asked
pub mod Bound
