-- Words that no clause of a public call cites: those of this crate's own functions.
pub mod Faults
pub mod Heading
pub mod KeptDocs
pub mod KeptPostings
pub mod ListTerm
pub mod OnlyReads
pub mod Outlining
pub mod Ranging
pub mod Rereading
pub mod Spelling
pub mod Surveying
pub mod Writing
