pub mod Entering
pub mod Heaviest
pub mod Advancing
pub mod Stops
