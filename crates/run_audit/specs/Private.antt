-- Words that no clause of a public call cites: those of this crate's own functions.
pub mod Places
pub mod Grading
pub mod Reading
pub mod Texts
pub mod Working
