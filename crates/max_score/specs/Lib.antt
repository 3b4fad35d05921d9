pub mod Cursors
pub mod Searches
pub mod Private
