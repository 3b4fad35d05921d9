pub mod Ending
pub mod Holding
pub mod Passing
