-- Words that no clause of a public call cites: those of this crate's own functions.
pub mod Blocks
pub mod Differences
pub mod Front
pub mod Pieces
pub mod Table
pub mod Writer
