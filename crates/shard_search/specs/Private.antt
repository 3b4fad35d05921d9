-- Words that no clause of a public call cites: those of this crate's own functions.
pub mod Heads
pub mod Standing
pub mod Tables
