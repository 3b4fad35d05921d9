pub mod Cursor
pub mod Simple8
pub mod Private
