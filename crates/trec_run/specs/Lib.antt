pub mod Runs
pub mod Totals
pub mod Private
