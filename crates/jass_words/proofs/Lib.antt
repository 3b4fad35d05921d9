mod Below
pub mod Bad
pub mod Loops
pub mod Tables
pub mod Spelling
pub mod Commas
pub mod Settings
pub mod Limits
pub mod Forms
pub mod Faults
pub mod Alone
pub mod Short
pub mod Terms
pub mod Parts
