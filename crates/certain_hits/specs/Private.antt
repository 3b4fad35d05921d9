-- Words that no clause of a public call cites: those of this crate's own functions and invariants.
pub mod Room
pub mod Foremost
pub mod Reach
