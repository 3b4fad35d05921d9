pub mod Below
pub mod Lists
pub mod Places
pub mod Naming
pub mod Alike
pub mod ByTerm
pub mod Segments
pub mod Sizes
