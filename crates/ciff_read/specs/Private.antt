-- Words that no clause of a public call cites: those of this crate's own functions.
pub mod Finishing
pub mod Kept
pub mod KeptEntries
pub mod Lists
pub mod Moving
pub mod OnlyReads
pub mod Places
pub mod Plain
pub mod Reached
pub mod Reaching
pub mod Recording
pub mod RisingEntries
pub mod Table
pub mod Usual
pub mod Walk
