-- Words that no clause of a public call cites: those of this crate's own functions.
pub mod Held
pub mod ImpactTable
pub mod Listed
pub mod Pairs
pub mod Runs
pub mod Weighed
