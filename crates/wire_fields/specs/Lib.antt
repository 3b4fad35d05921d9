pub mod Places
pub mod Reading
pub mod Numbers
pub mod Private
