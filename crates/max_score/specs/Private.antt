-- Words that no clause of a public call cites: those of this crate's own functions.
pub mod Unread
pub mod Lists
pub mod Reaching
pub mod Room
pub mod Selecting
pub mod Stamping
pub mod Standing
pub mod Walking
