-- Words that no clause of a public call cites: those of this crate's own functions.
pub mod Gathered
pub mod HeadWords
pub mod Opened
pub mod Outlines
pub mod Payloads
pub mod Plain
pub mod Samples
pub mod Tables
