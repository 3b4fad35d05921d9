pub mod Hits
pub mod Places
pub mod Standing
pub mod Noting
pub mod Private
