-- Words that no clause of a public call cites: those of this crate's own functions.
pub mod Commands
pub mod Opening
pub mod Places
pub mod Reporting
pub mod Standing
