pub mod Again
pub mod OneTerm
pub mod Steps
pub mod Whole
