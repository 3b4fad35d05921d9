pub mod Rows
pub mod Verdicts
pub mod Audits
pub mod Private
