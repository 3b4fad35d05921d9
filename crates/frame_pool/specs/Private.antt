-- Words that no clause of a public call cites: those of this crate's own functions.
pub mod Tables
pub mod Lending
pub mod Leases
pub mod Kept
pub mod Links
