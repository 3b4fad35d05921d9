-- Words that no clause of a public call cites: those of this crate's own functions.
pub mod Counting
pub mod Rows
pub mod Settling
pub mod Standing
